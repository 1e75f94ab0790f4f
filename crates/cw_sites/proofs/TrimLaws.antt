-- Lists with the items that they had.
use Rattle.std.proofs.Common.{◌≡◌, ◌∙◌, ◌+◌, ◌*◌, ◌≤◌, ℕ, List, [], length, sym, ap, subst, arith}
use Rattle.cw_model.specs.Trees.{Event}
use Rattle.cw_measure.specs.OpenParts.{Open}
use Rattle.cw_sites.specs.declared.steps.Steps.{Steps}
use Rattle.cw_sites.specs.declared.paths.ForkedBlock.{ForkedBlock}
use Rattle.cw_sites.specs.declared.paths.Paths.{Paths}
use Rattle.cw_sites.specs.declared.table.SiteTable.{SiteTable}
use Rattle.cw_sites.specs.OpenPaths.{Shows}
use Rattle.cw_sites.specs.PathBounds.{AreShort, most_steps}
use Rattle.cw_sites.specs.StepLists.{part, seen_blocks, strand_path, Laid, LaidFrom}
use Rattle.cw_sites.specs.StepSums.{AllBelow}
use Rattle.cw_sites.specs.StrandPaths.{StrandPath}
use Rattle.cw_sites.specs.Tables.{IsBoundedTable, Tracks}
use Rattle.cw_sites.specs.Trimmed.{IsTrimmed}

abbrev path_of : (q : ℕ) → List Steps → (start weight : ℕ) → List ForkedBlock → StrandPath
path_of q steps start weight blocks =
    record { now = part q steps start (length steps) weight; blocks = seen_blocks q steps blocks [] }

same_path : (q : ℕ) (old new : Paths) → IsTrimmed old new → strand_path q new ≡ strand_path q old
same_path q old new t =
    ap (λ l. path_of q l new.start new.weight new.blocks.items) t.steps
    ∙ ap (λ n. path_of q old.steps.items n new.weight new.blocks.items) t.start
    ∙ ap (λ n. path_of q old.steps.items old.start n new.blocks.items) t.weight
    ∙ ap (λ l. path_of q old.steps.items old.start old.weight l) t.blocks

same_laid : (old new : Paths) → IsTrimmed old new → Laid old → Laid new
same_laid old new t h = record {
  blocks = subst (λ n. LaidFrom 0 new.blocks.items n) (sym t.start) (subst (λ l. LaidFrom 0 l old.start) (sym t.blocks) h.blocks);
  start = (let s = t.start in let n = ap length t.steps in let le = h.start in omega (arith, s, n, le));
}

pub still_told : (base : ℕ) (busy : ℕ → ℕ) (os : List Open) (es : List Event) (old : SiteTable) (paths : Paths) → IsTrimmed old.paths paths
    → Tracks base busy os es old → Tracks base busy os es (record old { paths = paths })
still_told base busy os es old paths t h = record {
  rows = h.rows;
  paths = λ site. subst (λ p. Shows site base os es p) (sym (same_path site old.paths paths t)) (h.paths site);
  laid = same_laid old.paths paths t h.laid;
  noted_is = h.noted_is;
  here_is = h.here_is;
}

pub still_bounded : (most : ℕ) (old : SiteTable) (paths : Paths) → IsTrimmed old.paths paths → IsBoundedTable most old
    → IsBoundedTable most (record old { paths = paths })
still_bounded most old paths t h = record {
  paths = record {
    laid = same_laid old.paths paths t h.paths.laid;
    sites = subst (λ l. AllBelow most l) (sym t.steps) h.paths.sites;
    limit = (let e = t.limit in let le = h.paths.limit in omega (arith, e, le));
    blocks = subst (λ l. AreShort (most_steps most + 1) l) (sym t.blocks) h.paths.blocks;
    now = (let s = t.start in let n = ap length t.steps in let le = h.paths.now in omega (arith, s, n, le));
  };
  here = h.here;
}
