-- The modes that run a program, and the modes that have tables.
use Rattle.std.proofs.Common.{◌≡◌, ◌≢◌, ◌∙◌, ◌⊎◌, inl, inr, ℕ, sym, subst}
use Rattle.cw_words.specs.declared.asked.Mode.{Mode}
use Rattle.cw_words.specs.declared.asked.Mode.TheVariants as mode
use Rattle.cw_cli.specs.ModeTexts.{HasTables}

-- a mode that runs a program is not a check
pub running : (m k : Mode) → m ≡ k → k ≢ mode.Check → m ≢ mode.Check
running m k is not check = not (sym is ∙ check)

pub run_is_no_check : mode.Run ≡ mode.Check → ⊥
run_is_no_check e = cc

pub schedule_is_no_check : {p : ℕ} → mode.Greedy p ≡ mode.Check → ⊥
schedule_is_no_check e = cc

pub speedup_is_no_check : {most : ℕ} → mode.Speedup most ≡ mode.Check → ⊥
speedup_is_no_check e = cc

pub page_is_no_check : {top most : ℕ} → mode.Page top most ≡ mode.Check → ⊥
page_is_no_check e = cc

pub gain_is_no_check : {top : ℕ} → mode.Gain top ≡ mode.Check → ⊥
gain_is_no_check e = cc

pub has_tables : (m : Mode) → (m ≡ mode.Scale) ⊎ (m ≡ mode.Sites) → HasTables m
has_tables m (inl is) = subst HasTables (sym is) tt
has_tables m (inr is) = subst HasTables (sym is) tt
