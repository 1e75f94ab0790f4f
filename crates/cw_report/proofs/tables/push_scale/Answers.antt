use Rattle.cw_report.proofs.tables.push_scale.Goals as goal

pub returns : goal.returns
returns c =
    rw (
      c.as_bytes.ensures.value,
      c.format.ensures.text,
      c.as_bytes-2.ensures.value,
      c.format-2.ensures.text,
      c.as_bytes-3.ensures.value,
      c.format-3.ensures.text,
      c.as_slice.ensures.value,
      c.in_ok-plain.ensures,
      c.as_slice-2.ensures.value,
      c.in_ok-with_burden.ensures,
      c.from.ensures,
    )
    at c.push.ensures
