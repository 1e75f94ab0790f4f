use Rattle.std.proofs.Common.{arith, ◌≡◌, ℕ, ◌<◌, List, length, get_or, Some, true, false, sym, subst, ap, ◌∙◌}
use Rattle.std.specs.Prelude.{Option, option_map}
use Rattle.cw_verify.specs.declared.found.Found.{Found}
use Rattle.cw_verify.specs.Meetings.{meeting_of}
use Rattle.cw_verify.specs.Numbers.{Names, HasNumber, IsPair, number_of, number_after, AreNumbered}
use Rattle.cw_verify.specs.Table.{rounds_of, shape_view, shapes_of, work_of, Spread}
use Rattle.cw_verify.proofs.Numbering.{after_meeting, joined_outer, known_set, pair_same}
use Rattle.cw_verify.proofs.Spreading.{shapes_at, come_new, come_more}
use Rattle.cw_verify.proofs.search.Search.come.Goals as goal

-- the enclosing blocks of a reached pc have its number
there_numbered : (names : Names) (items : List (Option Found)) (numbers : List ℕ) (last k : ℕ) (o d : Option Found) (t : Found) → k < length items → o ≡ get_or items k d → o ≡ Some t → AreNumbered names (shapes_of items) numbers last →
    HasNumber names last (number_of numbers k) (rounds_of t.outer.value)
there_numbered names items numbers last k o d t lt e is h = h k (shape_view t) (shapes_at items k o d lt e ∙ ap (λ x. Some (option_map shape_view x)) is)

pub meet-meeting-requires : goal.meet-meeting-requires
meet-meeting-requires c =
    let items = c.args.self.now.found.items in
    let numbers = c.args.self.now.numbers in
    let lt : c.args.k < length items = omega (arith, c.if-k-len.false, c.len.ensures, c.args.self.now.found.ok.0) in
    let known = c.requires in
    let names = known.0 in
    let there = there_numbered names items numbers.places.items numbers.last c.args.k c.replace-there.result c.index_mut.result.now c.in-Some.there lt (c.replace-there.ensures.value ∙ c.index_mut.ensures.value) c.in-Some.is known.1.0 in (
      names,
      subst (λ r. HasNumber names numbers.last (number_of numbers.places.items c.args.k) (rounds_of r)) (sym c.deref.ensures) there,
      subst (λ r. HasNumber names numbers.last c.args.number (rounds_of r)) (sym c.deref-in-Some.ensures) known.2,
      known.1.1,
    )

pub returns-in_ok-note-in-None-clause-comes : goal.returns-in_ok-note-in-None-clause-comes
returns-in_ok-note-in-None-clause-comes c =
    let items = c.args.self.now.found.items in
    let work = work_of c.args.self.now in
    let lt : c.args.k < length items = omega (arith, c.if-k-len.false, c.len.ensures, c.args.self.now.found.ok.0) in
    let r = come_new items work (work_of c.note.new.self) c.args.k c.replace-there.new.dest c.replace-there.result c.index_mut.result.now c.args.shape c.in_ok-note-in-None.ensures.work lt
    (c.replace-there.ensures.value ∙ c.index_mut.ensures.value) c.in-None.is in (
      r.0 ∙ ap (λ l. Some (shapes_of l)) (sym c.note.ensures.found),
      subst (λ l. Spread (shapes_of items) (shapes_of l) work (work_of c.note.new.self) true) (sym c.note.ensures.found) r.1,
    )

pub returns-in_ok-note-in-Some-clause-comes : goal.returns-in_ok-note-in-Some-clause-comes
returns-in_ok-note-in-Some-clause-comes c =
    let items = c.args.self.now.found.items in
    let work = work_of c.args.self.now in
    let lt : c.args.k < length items = omega (arith, c.if-k-len.false, c.len.ensures, c.args.self.now.found.ok.0) in
    let met = c.in_ok-joined-in-Some.ensures in
    let more = c.in_ok-joined-in-Some.more in
    let r = come_more items work (work_of c.note-in-Some.new.self) c.args.k c.replace-there.new.dest c.replace-there.result c.index_mut.result.now c.in-Some.there c.in_ok-joined-in-Some.joined (shape_view c.args.shape) more c.in_ok-note-in-Some.ensures.work lt
    (c.replace-there.ensures.value ∙ c.index_mut.ensures.value) c.in-Some.is met.joins met.same met.fewer in (
      r.0 ∙ ap (λ l. Some (shapes_of l)) (sym c.note-in-Some.ensures.found),
      subst (λ l. Spread (shapes_of items) (shapes_of l) work (work_of c.note-in-Some.new.self) false) (sym c.note-in-Some.ensures.found) r.1,
    )

pub returns-in_ok-note-in-None-clause-known : goal.returns-in_ok-note-in-None-clause-known
returns-in_ok-note-in-None-clause-known c =
    let old = c.args.self.now in
    let new = c.note.new.self in
    let same = c.note.ensures.numbers in
    let set = c.set.ensures in
    let last : new.numbers.last ≡ old.numbers.last = ap (λ n. n.last) same ∙ set.last in
    record {
      last = last;
      all = λ names knows has. (
        known_set names old.found.items new.found.items old.numbers.places.items new.numbers.places.items old.numbers.last new.numbers.last c.args.k c.args.number c.replace-there.new.dest c.args.shape c.note.ensures.found (ap (λ n. n.places.items) same ∙ set.places)
            last knows.0 has,
        pair_same names old.numbers.last new.numbers.last old.numbers.pair new.numbers.pair last (ap (λ n. n.pair) same ∙ set.pair) knows.1,
      );
    }

pub returns-in_ok-note-in-Some-clause-known : goal.returns-in_ok-note-in-Some-clause-known
returns-in_ok-note-in-Some-clause-known c =
    let old = c.args.self.now in
    let new = c.note-in-Some.new.self in
    let items = old.found.items in
    let numbers = old.numbers in
    let k = c.args.k in
    let there = c.in-Some.there in
    let shape = c.args.shape in
    let joined = c.in_ok-joined-in-Some.joined in
    let lt : k < length items = omega (arith, c.if-k-len.false, c.len.ensures, old.found.ok.0) in
    let same = c.note-in-Some.ensures.numbers in
    let met = c.meet-meeting.ensures in
    let m = c.meet-meeting.result in
    let last : new.numbers.last ≡ numbers.last = ap (λ n. n.last) same ∙ met.last in
    let is : m ≡ meeting_of (rounds_of there.outer.value) (rounds_of shape.outer.value) = met.is ∙ ap (λ r. meeting_of (rounds_of r) (rounds_of c.deref-in-Some.result.now)) c.deref.ensures ∙ ap (λ r. meeting_of (rounds_of there.outer.value) (rounds_of r)) c.deref-in-Some.ensures in
    let here : (names : Names) → AreNumbered names (shapes_of items) numbers.places.items numbers.last → HasNumber names numbers.last (number_of numbers.places.items k) (rounds_of there.outer.value) =
    λ names h. there_numbered names items numbers.places.items numbers.last k c.replace-there.result c.index_mut.result.now there lt (c.replace-there.ensures.value ∙ c.index_mut.ensures.value) c.in-Some.is h in
    let outer = joined_outer (shape_view there) (shape_view shape) (shape_view joined) c.in_ok-joined-in-Some.ensures.joins in
    record {
      last = last;
      all = λ names knows has. (
        known_set names items new.found.items numbers.places.items new.numbers.places.items numbers.last new.numbers.last k (number_after m (number_of numbers.places.items k) c.args.number) c.replace-there.new.dest joined c.note-in-Some.ensures.found
            (ap (λ n. n.places.items) same ∙ met.places) last knows.0
            (subst (HasNumber names numbers.last (number_after m (number_of numbers.places.items k) c.args.number)) (sym outer)
            (after_meeting names numbers.last (number_of numbers.places.items k) c.args.number (rounds_of there.outer.value) (rounds_of shape.outer.value) m is (here names knows.0) has)),
        subst (λ n. IsPair names n.last n.pair) (sym same)
            (met.pair names (subst (λ r. HasNumber names numbers.last (number_of numbers.places.items k) (rounds_of r)) (sym c.deref.ensures) (here names knows.0))
            (subst (λ r. HasNumber names numbers.last c.args.number (rounds_of r)) (sym c.deref-in-Some.ensures) has) knows.1),
      );
    }
