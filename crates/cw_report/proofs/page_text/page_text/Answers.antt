use Rattle.cw_report.proofs.page_text.page_text.Goals as goal

pub returns-clause-ok : goal.returns-clause-ok
returns-clause-ok c =
    rw (
      c.as_slice-2.ensures.value,
      c.in_ok-title.ensures.ok,
      c.as_slice-3.ensures.value,
      c.in_ok-about.ensures.ok,
      c.as_slice.ensures.value,
      c.as_slice-4.ensures.value,
      c.in_ok-output.ensures.ok,
    ) at c.page_around.ensures.ok
