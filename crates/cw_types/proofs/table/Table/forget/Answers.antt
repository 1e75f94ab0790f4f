use Rattle.std.proofs.Common.{◌≡◌, ◌++◌, sym, ap, ◌∙◌, subst, List, ℕ, length, map, Option, Some, option_to_list, Bor, arith}
use Rattle.std.proofs.lemmas.List.{length-map}
use Rattle.cw_types.specs.Places.{ArePlaces}
use Rattle.cw_types.proofs.Places.{places_less, places_kept, one_more_name}
use Rattle.cw_types.proofs.table.Table.forget.Goals as goal

pub invariant_of-self : goal.invariant_of-self
invariant_of-self c =
    let ks = c.pop.new.self.items in
    let all = c.pop.ensures.items ∙ ap (λ (o : Option (Bor (List ℕ))). ks ++ option_to_list o) c.in-Some.is in
    let more = one_more_name ks c.self.inside.names.items c.in-Some.name all in
    let counted = length-map ks (λ (k : Bor (List ℕ)). k.now) in
    let place : c.in-Some-copied.place ≡ length (map (λ (k : Bor (List ℕ)). k.now) ks) = omega (arith, counted, c.if-place-len.true, c.len-len.ensures) in
    places_less c.self.inside.places c.remove.new.self (map (λ (k : Bor (List ℕ)). k.now) ks) c.in-Some.name.now
    (subst (λ (ns : List (List ℕ)). ArePlaces c.self.inside.places ns) more c.self.invariant)
    (sym c.get.ensures.value ∙ sym c.copied.ensures ∙ c.in-Some-copied.is ∙ ap (λ (n : ℕ). Some n) place)
    c.remove.ensures.updates

pub invariant_of-self-else-place-len : goal.invariant_of-self-else-place-len
invariant_of-self-else-place-len c =
    let ks = c.pop.new.self.items in
    let all = c.pop.ensures.items ∙ ap (λ (o : Option (Bor (List ℕ))). ks ++ option_to_list o) c.in-Some.is in
    let more = one_more_name ks c.self.inside.names.items c.in-Some.name all in
    let counted = length-map ks (λ (k : Bor (List ℕ)). k.now) in
    places_kept c.self.inside.places (map (λ (k : Bor (List ℕ)). k.now) ks) c.in-Some.name.now
    (subst (λ (ns : List (List ℕ)). ArePlaces c.self.inside.places ns) more c.self.invariant)
    (λ h. let same : Some c.in-Some-copied.place ≡ Some (length (map (λ (k : Bor (List ℕ)). k.now) ks)) = sym c.in-Some-copied.is ∙ c.copied.ensures ∙ c.get.ensures.value ∙ h in
    let place : c.in-Some-copied.place ≡ length (map (λ (k : Bor (List ℕ)). k.now) ks) = cc in
    c.if-place-len.false (omega (arith, counted, c.len-len.ensures)))

pub invariant_of-self-in_default-copied : goal.invariant_of-self-in_default-copied
invariant_of-self-in_default-copied c =
    let ks = c.pop.new.self.items in
    let all = c.pop.ensures.items ∙ ap (λ (o : Option (Bor (List ℕ))). ks ++ option_to_list o) c.in-Some.is in
    let more = one_more_name ks c.self.inside.names.items c.in-Some.name all in
    places_kept c.self.inside.places (map (λ (k : Bor (List ℕ)). k.now) ks) c.in-Some.name.now
    (subst (λ (ns : List (List ℕ)). ArePlaces c.self.inside.places ns) more c.self.invariant)
    (λ h. c.in_default-copied.not-Some (length (map (λ (k : Bor (List ℕ)). k.now) ks)) (c.copied.ensures ∙ c.get.ensures.value ∙ h))
