-- Known names, and the names that a statement declares.
use Rattle.std.proofs.Common.{◌≡◌, Bool, true, false, List, [], ◌∷◌, refl}
use Rattle.std.specs.Prelude.{if◌then◌else◌, not, ◌||◌, map}
use Rattle.std.proofs.lemmas.Bool.{or_parts}
use Rattle.cw_facts.specs.Tests.{not_true}
use Rattle.cw_model.specs.declared.syntax.NameKind.{NameKind}
use Rattle.cw_model.specs.Syntax.{is_array_kind, Name, Expr, Stmt, Declare, DeclareArray, Assign, AssignElement, Reduce}
use Rattle.cw_model.specs.Syntax.{Call, Start}
use Rattle.cw_model.specs.Syntax.{Begin, Sync, If, IfElse, While, For, Scope, Cut, Region, Print, Return, Program}
use Rattle.cw_model.specs.Names.{same_name, is_among}
use Rattle.cw_model.specs.Typing.{Known, is_known, is_int, is_array, is_new, globals, declares}
use Rattle.cw_model.specs.Ownership.{known_after}
use Rattle.cw_loops.specs.Lowerable.{new_integers, new_arrays}

-- the name is not known
pub record Unknown (known : Known) (x : Name) : Type 0 where
  pub no_int : is_int known x ≡ false
  pub no_array : is_array known x ≡ false

pub not_there : (such : NameKind → Bool) (known : Known) (x : Name) → is_among x (map (λ k. k.0) known) ≡ false →
    is_known x such known ≡ false
not_there such [] x h = refl
not_there such (k ∷ ks) x h = go (same_name x k.0) h (λ g. not_there such ks x g)
  where
    go : (b : Bool) → (if b then true else is_among x (map (λ k. k.0) ks)) ≡ false →
        (is_among x (map (λ k. k.0) ks) ≡ false → is_known x such ks ≡ false) →
        (if b then such k.1 else is_known x such ks) ≡ false
    go true g more = absurd cc
    go false g more = more g

pub new_unknown : (program : Program) (known : Known) (x : Name) → is_new program known x ≡ true → Unknown known x
new_unknown program known x h =
    let n = or_parts (is_among x (map (λ k. k.0) known)) (is_among x (globals program)) (not_true _ h) in
    record {
      no_int = not_there (λ kind. not (is_array_kind kind)) known x n.0;
      no_array = not_there is_array_kind known x n.0;
    }

-- a known integer is not a known array
pub not_both : (known : Known) (x : Name) → is_int known x ≡ true → is_array known x ≡ false
not_both [] x h = absurd cc
not_both (k ∷ ks) x h = go (same_name x k.0) (is_array_kind k.1) h (λ g. not_both ks x g)
  where
    go : (b array : Bool) → (if b then not array else is_int ks x) ≡ true →
        (is_int ks x ≡ true → is_array ks x ≡ false) → (if b then array else is_array ks x) ≡ false
    go true array g more = not_true array g
    go false array g more = more g

-- the name that a statement declares for the statements after it
pub data Adds (s : Stmt) : Type 0 where
  an_int : (x : Name) (e : Expr) → s ≡ Declare x e → Adds s
  an_array : (a : Name) (e : Expr) → s ≡ DeclareArray a e → Adds s
  nothing : ((known : Known) → declares s known ≡ known) → new_integers s ≡ [] → new_arrays s ≡ [] →
      ((owners : List Name) → known_after owners s ≡ owners) → Adds s

pub adds : (s : Stmt) → Adds s
adds (Declare x e) = an_int x e refl
adds (DeclareArray a e) = an_array a e refl
adds (Assign x e) = nothing (λ k. refl) refl refl (λ o. refl)
adds (AssignElement a i e) = nothing (λ k. refl) refl refl (λ o. refl)
adds (Reduce how s e) = nothing (λ k. refl) refl refl (λ o. refl)
adds (Call kind site target f es) = nothing (λ k. refl) refl refl (λ o. refl)
adds (Start kind f es) = nothing (λ k. refl) refl refl (λ o. refl)
adds (Begin f from to captured over) = nothing (λ k. refl) refl refl (λ o. refl)
adds Sync = nothing (λ k. refl) refl refl (λ o. refl)
adds (If e b) = nothing (λ k. refl) refl refl (λ o. refl)
adds (IfElse e b d) = nothing (λ k. refl) refl refl (λ o. refl)
adds (While e b) = nothing (λ k. refl) refl refl (λ o. refl)
adds (For x y z from to grain over b) = nothing (λ k. refl) refl refl (λ o. refl)
adds (Scope b) = nothing (λ k. refl) refl refl (λ o. refl)
adds (Cut a e l r b) = nothing (λ k. refl) refl refl (λ o. refl)
adds (Region tag b) = nothing (λ k. refl) refl refl (λ o. refl)
adds (Print e) = nothing (λ k. refl) refl refl (λ o. refl)
adds (Return e) = nothing (λ k. refl) refl refl (λ o. refl)

-- a declared name is known
pub known_more : (x y : Name) (owners : List Name) (i a : Bool) → is_among x owners ≡ (i || a) →
    is_among x (y ∷ owners) ≡ ((if same_name x y then true else i) || (if same_name x y then false else a))
known_more x y owners i a h = go (same_name x y)
  where
    go : (s : Bool) → (if s then true else is_among x owners) ≡ ((if s then true else i) || (if s then false else a))
    go true = refl
    go false = h

pub known_array_more : (x y : Name) (owners : List Name) (i a : Bool) → is_among x owners ≡ (i || a) →
    is_among x (y ∷ owners) ≡ ((if same_name x y then false else i) || (if same_name x y then true else a))
known_array_more x y owners i a h = go (same_name x y)
  where
    go : (s : Bool) → (if s then true else is_among x owners) ≡ ((if s then false else i) || (if s then true else a))
    go true = refl
    go false = h
