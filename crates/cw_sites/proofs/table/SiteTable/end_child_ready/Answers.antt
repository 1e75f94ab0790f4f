use Rattle.std.proofs.Common.{refl, sym, ap, ◌∙◌}
use Rattle.cw_sites.specs.declared.paths.Paths.{Paths}
use Rattle.cw_sites.specs.declared.table.SiteTable.{SiteTable}
use Rattle.cw_sites.proofs.TableLaws.{bounded_by, spawn_ends, tight_bounded}
use Rattle.cw_sites.proofs.table.SiteTable.end_child_ready.Goals as goal

pub end_first-requires : goal.end_first-requires
end_first-requires c = λ f fs e.
    c.requires f fs (ap (λ (x : _). x.items) (sym c.flush_within.ensures.blocks) ∙ ap (λ (x : Paths). x.blocks.items) (sym c.end_row_ready.ensures.paths) ∙ e)

pub returns-then-flush_within-clause-told : goal.returns-then-flush_within-clause-told
returns-then-flush_within-clause-told c = λ done base busy os before es fs site le n at small h.
    let closing = c.end_row_ready.new.self in
    let new : SiteTable = record { rows = closing.rows; paths = c.end_first.new.self; noted = closing.noted; here = closing.here } in
    spawn_ends base busy os before es fs c.args.self.now c.flush_within.new.self closing new c.args.count site c.args.outer le n at small h (c.flush_within.ensures.flushed c.if-flush_within.true) c.end_row_ready.ensures c.end_first.ensures.laid c.end_first.ensures.strand_path (λ q. refl) refl refl

pub returns-then-flush_within-clause-bounded : goal.returns-then-flush_within-clause-bounded
returns-then-flush_within-clause-bounded c = λ done most h b.
    let mid = c.flush_within.new.self in
    let f = c.flush_within.ensures.bounded c.if-flush_within.true most b in
    let g = c.end_row_ready.ensures in
    let k = bounded_by most mid c.end_row_ready.new.self c.args.outer g.paths g.here_is h f in
    tight_bounded most _ (record { paths = c.end_first.ensures.bounded most k.paths; here = k.here })
