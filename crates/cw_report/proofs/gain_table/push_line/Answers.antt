use Rattle.cw_report.proofs.gain_table.push_line.Goals as goal

pub returns : goal.returns
returns c =
    rw (
      c.as_bytes.ensures.value,
      c.format.ensures.text,
      c.as_bytes-2.ensures.value,
      c.format-2.ensures.text,
      c.as_bytes-3.ensures.value,
      c.format-3.ensures.text,
      c.as_bytes-4.ensures.value,
      c.format-4.ensures.text,
      c.as_bytes-5.ensures.value,
      c.format-5.ensures.text,
      c.as_bytes-6.ensures.value,
      c.format-6.ensures.text,
      c.as_slice.ensures.value,
      c.in_ok-ratio.ensures,
      c.from.ensures,
    )
    at c.push.ensures
