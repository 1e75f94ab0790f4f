-- Each event keeps that memory was wanting nowhere, or it was wanting by it.
use Rattle.std.proofs.Common.{◌≡◌, ◌⊎◌, ◌∙◌, ℕ, ◌-◌, ◌<◌, ℤ, true, false, List, [], ◌∷◌, ◌++◌, Some, sym, ap, subst, length, inl, inr}
use Rattle.std.specs.Prelude.{Result, Ok, Err}
use Rattle.std.specs.Arc.{arc_value}
use Rattle.std.proofs.lemmas.List.{length-set}
use Rattle.std.proofs.lemmas.Bool.{true≢false}
use Rattle.cw_facts.specs.Lists.{each_pushed, each_at}
use Rattle.cw_text.specs.declared.fault.Fault.TheVariants as fault
use Rattle.cw_model.specs.declared.burden.Burden.{Burden}
use Rattle.cw_runnable.specs.declared.verified.Verified.{Verified}
use Rattle.cw_strand.specs.Holds.{has_failed, IsGoing, IsWaiting, HasFailed}
use Rattle.cw_strand.specs.Losing.{MayLose, TakesIn, ReportsFailure}
use Rattle.cw_sched.specs.core.Board.{pushed, newest, but_newest, oldest, of_worker}
use Rattle.cw_sched.specs.declared.board.Cell.{Cell}
use Rattle.cw_sched.specs.declared.event.Event.{Event}
use Rattle.cw_sched.specs.declared.event.Event.TheVariants as event
use Rattle.cw_sched.specs.declared.event.Refused.{Refused}
use Rattle.cw_sched.specs.declared.post.Out.{Out}
use Rattle.cw_sched.specs.declared.post.Out.TheVariants as out
use Rattle.cw_sched.specs.declared.world.World.{World}
use Rattle.cw_sched.specs.Boards.{Each, Boarded, offered, collected}
use Rattle.cw_sched.specs.Scenes.{FrameView, Stage, Goes, Made, Answered, Scene, scene, top}
use Rattle.cw_sched.specs.Lacking.{is_memory, lacks_memory, HasEnded, LacksNone, Loses, LacksBy, PreservesMemory}
use Rattle.cw_sched.specs.Events.{with_top, but_top, turned, board_without, with_outs, Runs, Spawns, Offers, Inlines, Retakes, Steals, Settles, Collects, Does, DoesOr}
use Rattle.cw_sched.specs.Worlds.{answer_of, IsStarted, Leads, LeadsToLack}
use Rattle.cw_sched.proofs.Lists.{each_set, each_worker, each_but_newest, each_newest, each_oldest, of_worker_set, newest_pushed}
use Rattle.cw_sched.proofs.Sounds.{each_remove}
use Rattle.cw_sched.proofs.Begins.{each_none}
use Rattle.cw_sched.proofs.Placed.{there}
use Rattle.cw_sched.proofs.Ends.{answer_is}
use Rattle.cw_sched.proofs.Lacking.{bool_cases, memory_is}

abbrev pub HasSome : Stage → Type 0
HasSome x = lacks_memory x ≡ false

abbrev pub CellHasSome : Cell → Type 0
CellHasSome c = is_memory c.effect ≡ false

less : (begun : List (List Stage)) (w : ℕ) → Each (Each HasSome) begun → Each (Each HasSome) (but_top begun w)
less begun w h = each_set (Each HasSome) begun w (but_newest (of_worker begun w)) h (each_but_newest HasSome (of_worker begun w) (each_worker HasSome begun w h))

more : (begun : List (List Stage)) (w : ℕ) (x : Stage) → Each (Each HasSome) begun → HasSome x → Each (Each HasSome) (with_top begun w x)
more begun w x h p = each_set (Each HasSome) begun w (pushed (of_worker begun w) x) h (each_pushed HasSome (of_worker begun w) x (each_worker HasSome begun w h) p)

-- w's newest
top_has : (s : Scene) (w : ℕ) (x : Stage) → LacksNone s → top s w ≡ Some x → HasSome x
top_has s w x h at = each_newest HasSome (of_worker s.begun w) x (each_worker HasSome s.begun w h.0) at

turned_none : (s : Scene) (w : ℕ) (x : Stage) (board : Boarded) → LacksNone s → HasSome x → Each CellHasSome board.cells → LacksNone (turned s w x board)
turned_none s w x board h p cells = (more (but_top s.begun w) w x (less s.begun w h.0) p, cells)

laid : (begun : List (List Stage)) (w : ℕ) (x : Stage) → w < length begun → newest (of_worker (with_top begun w x) w) ≡ Some x
laid begun w x lt = ap newest (of_worker_set begun w (of_worker begun w ++ x ∷ []) lt) ∙ newest_pushed (of_worker begun w) x

turned_top : (s : Scene) (w : ℕ) (x y : Stage) (board : Boarded) → top s w ≡ Some y → top (turned s w x board) w ≡ Some x
turned_top s w x y board at =
    laid (but_top s.begun w) w x (subst (λ n. w < n) (sym (length-set s.begun w (but_newest (of_worker s.begun w)))) (there s.begun w y at))

abbrev loses : (s s' : Scene) (w : ℕ) (p : FrameView) (x : Stage) (board : Boarded) → top s w ≡ Some (Goes p) → s' ≡ turned s w x board → lacks_memory x ≡ true → Loses s s' w
loses s s' w p x board at is l = record {
  post = p;
  was = at;
  stage = x;
  is = ap (λ (t : Scene). top t w) is ∙ turned_top s w x (Goes p) board at;
  lacks = l;
}

-- a strand of a world in which memory was wanting nowhere
not_lost : (s : Scene) (w : ℕ) (p : FrameView) → LacksNone s → top s w ≡ Some (Goes p) → HasFailed p.strand → ⊥
not_lost s w p h at lost = true≢false (sym lost ∙ top_has s w (Goes p) h at)

-- what is laid down lacks none, or this is known of it
cases : (s s' : Scene) (w : ℕ) (x : Stage) (board : Boarded) (e : Event) → LacksNone s → s' ≡ turned s w x board → Each CellHasSome board.cells → (lacks_memory x ≡ true → LacksBy e s s')
    → LacksNone s' ⊎ LacksBy e s s'
cases s s' w x board e h is cells f = by_stage (bool_cases (lacks_memory x))
  where
    by_stage : (lacks_memory x ≡ false) ⊎ (lacks_memory x ≡ true) → LacksNone s' ⊎ LacksBy e s s'
    by_stage (inl has) = inl (subst (λ (t : Scene). LacksNone t) (sym is) (turned_none s w x board h has cells))
    by_stage (inr lacking) = inr (f lacking)

run_keeps : (v : Verified) (s s' : Scene) (w : ℕ) → Runs v s s' w → PreservesMemory (event.Run w) s s'
run_keeps v s s' w d h =
    cases s s' w d.stage s.board (event.Run w) h d.is h.1 (λ lacking. (loses s s' w d.at.post d.stage s.board d.at.is d.is lacking, (d.lacks lacking).0))

spawn_keeps : (v : Verified) (s s' : Scene) (w : ℕ) → Spawns v s s' w → PreservesMemory (event.Run w) s s'
spawn_keeps v s s' w d h = inl (subst (λ (t : Scene). LacksNone t) (sym d.is) (more (but_top s.begun w) w (Goes d.post) (less s.begun w h.0) (ap has_failed d.goes), h.1))

offer_keeps : (s s' : Scene) (w : ℕ) → Offers s s' w → PreservesMemory (event.Offer w) s s'
offer_keeps s s' w d h =
    let p = d.at.at.post in
    let has = top_has s w (Goes p) h d.at.at.is in
    inl (subst (λ (t : Scene). LacksNone t) (sym d.is) (turned_none s w (with_outs p (d.at.older ++ out.Offered d.number ∷ []))
    (offered s.board w (record { number = d.number; job = d.job })) h has h.1))

inline_keeps : (s s' : Scene) (w : ℕ) → Inlines s s' w → PreservesMemory (event.Inline w) s s'
inline_keeps s s' w d h =
    let p = d.at.at.post in
    let has = top_has s w (Goes p) h d.at.at.is in
    inl (subst (λ (t : Scene). LacksNone t) (sym d.is) (turned_none s w (with_outs p (d.at.older ++ out.Kept d.number d.job ∷ [])) s.board h has h.1))

same_cells : (b : Boarded) (w : ℕ) (o : Out) → Each CellHasSome b.cells → Each CellHasSome (board_without b w o).cells
same_cells b w (out.Undecided n job) h = h
same_cells b w (out.Kept n job) h = h
same_cells b w (out.Offered n) h = h

retake_keeps : (v : Verified) (s s' : Scene) (w : ℕ) → Retakes v s s' w → PreservesMemory (event.Retake w) s s'
retake_keeps v s s' w d h =
    let p = d.at.at.post in
    let board = board_without s.board w d.at.newest in
    cases s s' w d.stage board (event.Retake w) h d.is (same_cells s.board w d.at.newest h.1) (λ lacking.
    let k = ended (d.lacks lacking) in (loses s s' w p d.stage board d.at.at.is d.is lacking, k.0, k.1))
  where
    ended : HasFailed d.at.at.post.strand ⊎ (IsWaiting d.at.at.post.strand × HasEnded d.stage) → IsWaiting d.at.at.post.strand × HasEnded d.stage
    ended (inl lost) = absurd (not_lost s w d.at.at.post h d.at.at.is lost)
    ended (inr k) = k

steal_keeps : (v : Verified) (s s' : Scene) (w victim : ℕ) → Steals v s s' w victim → PreservesMemory (event.Steal w victim) s s'
steal_keeps v s s' w victim d h = by_stage (bool_cases (lacks_memory d.stage))
  where
    by_stage : (lacks_memory d.stage ≡ false) ⊎ (lacks_memory d.stage ≡ true) → LacksNone s' ⊎ LacksBy (event.Steal w victim) s s'
    by_stage (inl has) = inl (subst (λ (t : Scene). LacksNone t) (sym d.is) (more s.begun w d.stage h.0 has, h.1))
    by_stage (inr lacking) = inr (d.stage, ap (λ (t : Scene). top t w) d.is ∙ laid s.begun w d.stage d.there, lacking, d.lacks lacking)

settle_keeps : (s s' : Scene) (w : ℕ) → Settles s s' w → PreservesMemory (event.Settle w) s s'
settle_keeps s s' w d h =
    let c : Cell = record { number = d.number; effect = d.effect } in
    inl (subst (λ (t : Scene). LacksNone t) (sym d.is) (less s.begun w h.0, each_pushed CellHasSome s.board.cells c h.1 (top_has s w (Made d.number d.effect) h d.made)))

collect_keeps : (v : Verified) (s s' : Scene) (w : ℕ) → Collects v s s' w → PreservesMemory (event.Collect w) s s'
collect_keeps v s s' w d h =
    let board = collected s.board d.place in
    cases s s' w d.stage board (event.Collect w) h d.is (each_remove CellHasSome s.board.cells d.place h.1) (λ lacking.
    (loses s s' w d.at.at.post d.stage board d.at.at.is d.is lacking, d.place, record { number = d.number; effect = d.effect }, d.cell, taken (d.lacks lacking)))
  where
    not_memory : ReportsFailure d.effect → ⊥
    not_memory m = true≢false (sym (memory_is d.effect m) ∙ each_at CellHasSome s.board.cells d.place (record { number = d.number; effect = d.effect }) h.1 d.cell)

    taken : MayLose d.at.at.post.strand d.effect → TakesIn d.at.at.post.strand d.effect
    taken (inl lost) = absurd (not_lost s w d.at.at.post h d.at.at.is lost)
    taken (inr (inl m)) = absurd (not_memory m)
    taken (inr (inr k)) = k

-- whichever event it is, done or refused
does_keep : (v : Verified) (s s' : Scene) (e : Event) → Does v e s s' → PreservesMemory e s s'
does_keep v s s' (event.Run w) (inl d) = run_keeps v s s' w d
does_keep v s s' (event.Run w) (inr d) = spawn_keeps v s s' w d
does_keep v s s' (event.Offer w) d = offer_keeps s s' w d
does_keep v s s' (event.Inline w) d = inline_keeps s s' w d
does_keep v s s' (event.Retake w) d = retake_keeps v s s' w d
does_keep v s s' (event.Steal w victim) d = steal_keeps v s s' w victim d
does_keep v s s' (event.Settle w) d = settle_keeps s s' w d
does_keep v s s' (event.Collect w) d = collect_keeps v s s' w d

done_keeps : (v : Verified) (e : Event) (r : Result (Unit {0}) Refused) (s s' : Scene) → DoesOr v e r s s' → PreservesMemory e s s'
done_keeps v e (Ok x) s s' d = does_keep v s s' e d
done_keeps v e (Err x) s s' d = λ h. inl (subst (λ (t : Scene). LacksNone t) (sym d) h)

pub world_keeps : (w w' : World) (e : Event) (r : Result (Unit {0}) Refused) → DoesOr (arc_value w.code) e r (scene w) (scene w') → PreservesMemory e (scene w) (scene w')
world_keeps w w' e r d = done_keeps (arc_value w.code) e r (scene w) (scene w') d

-- memory was wanting nowhere in a world that has begun
started_none : (v : Verified) (args : List ℤ) (n : ℕ) (burden : Burden) (workers : ℕ) (w : World) → IsStarted v args n burden workers w → LacksNone (scene w)
started_none v args n burden workers w h = (
  subst (λ (b : List (List Stage)). Each (Each HasSome) b) (sym h.begun) ((ap has_failed h.goes, tt), each_none HasSome (workers - 1)),
  subst (λ (b : Boarded). Each CellHasSome b.cells) (sym h.board) tt,
)

later : (e : Event) (events : List Event) (old new : World) (l : Leads (e ∷ events) old new) → LacksNone (scene new) ⊎ LeadsToLack events l.0 new
    → LacksNone (scene new) ⊎ LeadsToLack (e ∷ events) old new
later e events old new l (inl none) = inl none
later e events old new l (inr k) = inr (l.0, l.1, inr k)

first : (e : Event) (events : List Event) (old new : World) (l : Leads (e ∷ events) old new) → LacksNone (scene old) → LacksNone (scene l.0) ⊎ LacksBy e (scene old) (scene l.0)
    → (LacksNone (scene l.0) → LacksNone (scene new) ⊎ LeadsToLack events l.0 new) → LacksNone (scene new) ⊎ LeadsToLack (e ∷ events) old new
first e events old new l h (inl none) more = later e events old new l (more none)
first e events old new l h (inr k) more = inr (l.0, l.1, inl (h, k, l.2))

leads_keep : (events : List Event) (old new : World) → Leads events old new → LacksNone (scene old) → LacksNone (scene new) ⊎ LeadsToLack events old new
leads_keep [] old new is h = inl (subst (λ (w : World). LacksNone (scene w)) (sym is) h)
leads_keep (e ∷ events) old new l h = first e events old new l h (l.1.memory h) (λ none. leads_keep events l.0 new l.2 none)

answers_none : (s : Scene) → LacksNone s → answer_of s ≡ Some (Err fault.Memory) → ⊥
answers_none s h is =
    true≢false (each_oldest HasSome (of_worker s.begun 0) (Answered (Err fault.Memory)) (each_worker HasSome s.begun 0 h.0) (answer_is (oldest (of_worker s.begun 0)) (Err fault.Memory) (sym is)))

pub memory_was_wanting : (v : Verified) (args : List ℤ) (n : ℕ) (burden : Burden) (workers : ℕ) (events : List Event) (first last : World) → IsStarted v args n burden workers first
    → Leads events first last → answer_of (scene last) ≡ Some (Err fault.Memory) → LeadsToLack events first last
memory_was_wanting v args n burden workers events first last started leads is = told (leads_keep events first last leads (started_none v args n burden workers first started))
  where
    told : LacksNone (scene last) ⊎ LeadsToLack events first last → LeadsToLack events first last
    told (inl none) = absurd (answers_none (scene last) none is)
    told (inr l) = l
