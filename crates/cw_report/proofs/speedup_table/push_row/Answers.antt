use Rattle.cw_report.proofs.speedup_table.push_row.Goals as goal

pub returns : goal.returns
returns c =
    rw (
      c.as_bytes.ensures.value,
      c.format.ensures.text,
      c.as_slice.ensures.value,
      c.in_ok-steps.ensures,
      c.as_slice-2.ensures.value,
      c.in_ok-speedup.ensures,
      c.as_slice-3.ensures.value,
      c.in_ok-bound.ensures,
      c.as_bytes-2.ensures.value,
      c.format-2.ensures.text,
      c.as_slice-4.ensures.value,
      c.in_ok-with_burden.ensures,
      c.burdened_steps-burdened.ensures,
    )
    at c.push.ensures
