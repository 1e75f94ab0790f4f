use Rattle.std.proofs.Common.{List, [], ◌∷◌, ◌++◌, ap, ◌∙◌}
use Rattle.std.specs.Global.{Vec}
use Rattle.std.proofs.lemmas.List.{append-nil}
use Rattle.cw_greedy.specs.declared.entry.Entry.{Entry}
use Rattle.cw_greedy.specs.Entries.{codes_kept, codes_of_chunks, one_chunk}
use Rattle.cw_greedy.proofs.chunks.close.Goals as goal

pub returns : goal.returns
returns c =
    let old = c.args.chunks.now.items in
    let full = c.replace-full.result in
    let last = c.replace-full.new.dest in
    ap (λ chunks. codes_kept chunks last.items) (c.in_ok-push_back.ensures.items ∙ ap (λ (chunks : List (Vec Entry)). chunks ++ full ∷ []) c.in_ok-reserve.ensures.items)
    ∙ ap (codes_kept (old ++ full ∷ [])) (ap (λ (v : Vec Entry). v.items) c.replace-full.ensures.after ∙ c.requires)
    ∙ append-nil (codes_of_chunks (old ++ full ∷ []))
    ∙ one_chunk old full
    ∙ ap (λ (v : Vec Entry). codes_kept old v.items) c.replace-full.ensures.value
