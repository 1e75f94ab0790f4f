use Rattle.std.proofs.Common.{◌≡◌, ℕ, ◌<◌, ◌≤◌, List, length, get_or, refl, ◌∙◌, sym, inl, inr, arith}
use Rattle.std.proofs.lemmas.Bool.{cases_lt}
use Rattle.std.proofs.lemmas.List.{get_or_past}
use Rattle.cw_facts.proofs.pages.fill.Goals as goal

-- what is behind the end is what was there
filled : {T : Type 0} (none : T) (old new : List T) (n : ℕ) → length old ≤ n → length new ≡ n → ((k : ℕ) (d : T) → k < n → k < length old → get_or new k d ≡ get_or old k d) → ((k : ℕ) (d : T) → length old ≤ k → k < n → get_or new k d ≡ none) → (k : ℕ) → get_or new k none ≡ get_or old k none
filled none old new n short long kept more k =
    elim (cases_lt k (length old)) [
      | inl l ↦ kept k none (omega arith) l
      | inr m ↦ elim (cases_lt k n) [
        | inl l ↦ more k none m l ∙ sym (get_or_past old k none m)
        | inr p ↦ get_or_past new k none (omega arith) ∙ sym (get_or_past old k none m)
      ]
    ]

pub returns-clause-same : goal.returns-clause-same
returns-clause-same g c =
    let o = c.args.list.now.ok.0 in
    let n = c.resize.new.self.ok.0 in
    let by = c.in_ok-resize.ensures.by_index in
    filled c.args.none c.args.list.now.items c.resize.new.self.items c.args.count (omega arith) (omega (arith, c.in_ok-resize.ensures.len)) (λ k d l m. by.0 k d l (omega arith)) (λ k d m l. by.1 k d refl (omega arith) l)
