-- Runs so far that are alike remain alike.
use Rattle.std.specs.Prelude.{◌≡◌, Bool, ℕ, true, false, ◌&&◌, ◌||◌, List, [], ◌∷◌, ◌++◌, Option, Some, None, refl}
use Rattle.std.proofs.Common.{sym, ◌∙◌, ap, subst}
use Rattle.std.proofs.lemmas.List.{append-nil, append_assoc}
use Rattle.cw_model.specs.Trees.{Mark, Tree, Leaf, Event, Work, Series, Fork, Join, parts_of, tree_of}
use Rattle.cw_model.specs.TreeLaws.{Regrouped, same, back, further, nothing_before, in_series, in_fork, in_mark}
use Rattle.cw_measure.specs.OpenParts.{Open, marked, part_of, closed, spawned_after, has_spawned, has_spawned_from, no_joins}
use Rattle.cw_measure.specs.lemmas.OpenParts.{spawned_append}
use Rattle.cw_sites.specs.OpenPaths.{inside, here_in}
use Rattle.cw_meter.specs.Alike.{AreAlike, AreOpenAlike, SameParts}

after_event : (e : Event) (es fs : List Event) → SameParts es fs → SameParts (e ∷ es) (e ∷ fs)
after_event (Work k) es fs h = (in_series (same (Leaf k)) h.0, h.1)
after_event (Series t) es fs h = (in_series (same t) h.0, h.1)
after_event (Fork t) es fs h = (in_fork (same t) h.0, h.1)
after_event Join es fs h = (same (Leaf 0), in_series h.0 h.1)

same_parts : (es : List Event) → SameParts es es
same_parts es = (same (parts_of es).0, same (parts_of es).1)

after_part : (spawned : Bool) (t u : Tree) (more : List Event) → Regrouped t u → SameParts (part_of spawned t ∷ more) (part_of spawned u ∷ more)
after_part true t u more h = (in_fork h (same (parts_of more).0), same (parts_of more).1)
after_part false t u more h = (in_series h (same (parts_of more).0), same (parts_of more).1)

after_events : (ds es fs : List Event) → SameParts es fs → SameParts (ds ++ es) (ds ++ fs)
after_events [] es fs h = h
after_events (d ∷ ds) es fs h = after_event d (ds ++ es) (ds ++ fs) (after_events ds es fs h)

-- a join at the end of a block
joined_parts : (es : List Event) → SameParts es (es ++ Join ∷ [])
joined_parts [] = (same (Leaf 0), back (nothing_before (Leaf 0)))
joined_parts (e ∷ es) = after_event e es (es ++ Join ∷ []) (joined_parts es)

same_tree : (es fs : List Event) → SameParts es fs → Regrouped (tree_of es) (tree_of fs)
same_tree es fs h = in_series h.0 h.1

same_lists : (a b c d : List Event) → a ≡ b → c ≡ d → SameParts a c → SameParts b d
same_lists a b c d e f h =
    let P : List Event → Type 0 = λ x. SameParts x c in
    let Q : List Event → Type 0 = λ x. SameParts b x in subst Q f (subst P e h)

and_further : (a b c : List Event) → SameParts a b → SameParts b c → SameParts a c
and_further a b c h g = (further h.0 g.0, further h.1 g.1)

-- whether events contain a join
pub joins_append : (es fs : List Event) → no_joins (es ++ fs) ≡ no_joins es && no_joins fs
joins_append [] fs = refl
joins_append (Work k ∷ es) fs = joins_append es fs
joins_append (Series t ∷ es) fs = joins_append es fs
joins_append (Fork t ∷ es) fs = joins_append es fs
joins_append (Join ∷ es) fs = refl

joins_part : (s : Bool) (t u : Tree) → no_joins (part_of s t ∷ []) ≡ no_joins (part_of s u ∷ [])
joins_part true t u = refl
joins_part false t u = refl

pub alike_itself : (es : List Event) → AreAlike es es
alike_itself es = record { parts = λ more. same_parts (es ++ more); spawned = refl; joins = refl }

pub alike_more : (es fs gs : List Event) → AreAlike es fs → AreAlike (es ++ gs) (fs ++ gs)
alike_more es fs gs h = record {
  parts = λ more. same_lists (es ++ (gs ++ more)) ((es ++ gs) ++ more) (fs ++ (gs ++ more)) ((fs ++ gs) ++ more) (sym (append_assoc es gs more)) (sym (append_assoc fs gs more)) (h.parts (gs ++ more));
  spawned = spawned_append false es gs ∙ ap (λ (b : Bool). has_spawned_from b gs) h.spawned ∙ sym (spawned_append false fs gs);
  joins = joins_append es gs ∙ ap (λ (b : Bool). b && no_joins gs) h.joins ∙ sym (joins_append fs gs);
}

pub alike_trees : (es fs : List Event) → AreAlike es fs → Regrouped (tree_of es) (tree_of fs)
alike_trees es fs h = same_tree es fs (same_lists (es ++ []) es (fs ++ []) fs (append-nil es) (append-nil fs) (h.parts []))

pub alike_joined : (es fs : List Event) → AreAlike es fs → Regrouped (tree_of es) (tree_of (fs ++ Join ∷ []))
alike_joined es fs h = further (alike_trees es fs h) (same_tree fs (fs ++ Join ∷ []) (joined_parts fs))

spawned_part : (s b : Bool) (t u : Tree) → spawned_after b (part_of s t) ≡ spawned_after b (part_of s u)
spawned_part true b t u = refl
spawned_part false b t u = refl

in_marked : (mark : Option Mark) (t u : Tree) → Regrouped t u → Regrouped (marked mark t) (marked mark u)
in_marked None t u h = h
in_marked (Some m) t u h = in_mark m h

-- one more part
alike_part : (s : Bool) (a b : List Event) (t u : Tree) → AreAlike a b → Regrouped t u → AreAlike (a ++ part_of s t ∷ []) (b ++ part_of s u ∷ [])
alike_part s a b t u h r = record {
  parts = λ more.
      same_lists (a ++ (part_of s t ∷ more)) ((a ++ part_of s t ∷ []) ++ more) (b ++ (part_of s u ∷ more)) ((b ++ part_of s u ∷ []) ++ more)
      (sym (append_assoc a (part_of s t ∷ []) more)) (sym (append_assoc b (part_of s u ∷ []) more))
      (and_further (a ++ (part_of s t ∷ more)) (b ++ (part_of s t ∷ more)) (b ++ (part_of s u ∷ more)) (h.parts (part_of s t ∷ more))
      (after_events b (part_of s t ∷ more) (part_of s u ∷ more) (after_part s t u more r)));
  spawned =
      spawned_append false a (part_of s t ∷ []) ∙ ap (λ (x : Bool). spawned_after x (part_of s t)) h.spawned ∙ spawned_part s (has_spawned b) t u
      ∙ sym (spawned_append false b (part_of s u ∷ []));
  joins = joins_append a (part_of s t ∷ []) ∙ ap (λ (x : Bool). x && no_joins (part_of s t ∷ [])) h.joins
      ∙ ap (λ (x : Bool). no_joins b && x) (joins_part s t u) ∙ sym (joins_append b (part_of s u ∷ []));
}

pub alike_closed : (o p : Open) (es fs : List Event) → o.spawned ≡ p.spawned → o.mark ≡ p.mark → AreAlike o.outer p.outer → Regrouped (tree_of es) (tree_of fs) → AreAlike (closed o es) (closed p fs)
alike_closed o p es fs s m h r =
    let P : Bool → Type 0 = λ x. AreAlike (closed o es) (p.outer ++ part_of x (marked o.mark (tree_of fs)) ∷ []) in
    let Q : Option Mark → Type 0 = λ x. AreAlike (closed o es) (p.outer ++ part_of p.spawned (marked x (tree_of fs)) ∷ []) in
    subst Q m (subst P s (alike_part o.spawned o.outer p.outer (marked o.mark (tree_of es)) (marked o.mark (tree_of fs)) h (in_marked o.mark (tree_of es) (tree_of fs) r)))

-- one more piece
spawned_on : (fs : List Event) → has_spawned_from true fs ≡ no_joins fs || has_spawned fs
spawned_on [] = refl
spawned_on (Work k ∷ fs) = spawned_on fs
spawned_on (Series t ∷ fs) = spawned_on fs
spawned_on (Fork t ∷ fs) = by_flag (no_joins fs) (has_spawned fs) (spawned_on fs) ∙ ap (λ (b : Bool). no_joins fs || b) (sym (spawned_on fs))
  where
    by_flag : (a b : Bool) → has_spawned_from true fs ≡ a || b → has_spawned_from true fs ≡ a || (a || b)
    by_flag true b e = e
    by_flag false b e = e
spawned_on (Join ∷ fs) = refl

spawned_same : (b : Bool) (fs gs : List Event) → no_joins fs ≡ no_joins gs → has_spawned fs ≡ has_spawned gs → has_spawned_from b fs ≡ has_spawned_from b gs
spawned_same true fs gs j s = spawned_on fs ∙ ap (λ (x : Bool). x || has_spawned fs) j ∙ ap (λ (x : Bool). no_joins gs || x) s ∙ sym (spawned_on gs)
spawned_same false fs gs j s = s

pub alike_both : (es es' fs fs' : List Event) → AreAlike es es' → AreAlike fs fs' → AreAlike (es ++ fs) (es' ++ fs')
alike_both es es' fs fs' h g = record {
  parts = λ more.
      same_lists (es ++ (fs ++ more)) ((es ++ fs) ++ more) (es' ++ (fs' ++ more)) ((es' ++ fs') ++ more) (sym (append_assoc es fs more)) (sym (append_assoc es' fs' more))
      (and_further (es ++ (fs ++ more)) (es' ++ (fs ++ more)) (es' ++ (fs' ++ more)) (h.parts (fs ++ more)) (after_events es' (fs ++ more) (fs' ++ more) (g.parts more)));
  spawned = spawned_append false es fs ∙ ap (λ (b : Bool). has_spawned_from b fs) h.spawned ∙ spawned_same (has_spawned es') fs fs' g.joins g.spawned ∙ sym (spawned_append false es' fs');
  joins = joins_append es fs ∙ ap (λ (b : Bool). b && no_joins fs) h.joins ∙ ap (λ (b : Bool). no_joins es' && b) g.joins ∙ sym (joins_append es' fs');
}

-- whether a block has spawned, after a piece without a join
pub spawned_either : (a b : Bool) (es fs : List Event) → no_joins fs ≡ true → a ≡ has_spawned es → b ≡ has_spawned fs → a || b ≡ has_spawned (es ++ fs)
spawned_either true b es fs n e f = sym (spawned_append false es fs ∙ ap (λ (x : Bool). has_spawned_from x fs) (sym e) ∙ spawned_on fs ∙ ap (λ (x : Bool). x || has_spawned fs) n)
spawned_either false b es fs n e f = f ∙ sym (spawned_append false es fs ∙ ap (λ (x : Bool). has_spawned_from x fs) (sym e))

-- the same parts are open in the same invocation
pub here_alike : (base : ℕ) (os ps : List Open) → AreOpenAlike os ps → here_in base os ≡ here_in base ps
here_alike base [] [] h = refl
here_alike base [] (p ∷ ps) h = absurd h
here_alike base (o ∷ os) [] h = absurd h
here_alike base (o ∷ os) (p ∷ ps) h = ap (λ (m : Option Mark). inside m (here_in base os)) h.1 ∙ ap (inside p.mark) (here_alike base os ps h.3)
