-- If a stage rejects its input, the bytes are rejected.
use Rattle.std.proofs.Common.{◌≡◌, ℕ, true, List, [], ◌∷◌, map, refl, subst, sym, ap, ◌∙◌}
use Rattle.cw_model.specs.declared.token.Token.{Token}
use Rattle.cw_model.specs.Syntax.{Program}
use Rattle.cw_model.specs.Text.{IsSourceText}
use Rattle.cw_model.specs.Tokens.{IsTokenCut}
use Rattle.cw_model.specs.Ownership.{ownership_faults}
use Rattle.cw_text.specs.declared.fault.Fault.{Fault}
use Rattle.cw_text.specs.declared.fault.Fault.TheVariants as fault
use Rattle.cw_parse.specs.Parsed.{IsParsed, IsUnparsed}
use Rattle.cw_types.specs.Faults.{IsTyped, IsIllTyped}
use Rattle.cw_tree.specs.ResolvedView.{program_of, resolved_of}
use Rattle.cw_tree.specs.declared.resolved.Tree.{Tree}
use Rattle.cw_own.specs.Faults.{BreaksOwnership}
use Rattle.cw_gen.specs.Generates as gen
use Rattle.cw_code.specs.Code.{code_view}
use Rattle.cw_code.specs.declared.code.Code as declared
use Rattle.cw_code.specs.Fits.{Fits}
use Rattle.cw_verify.specs.Table.{Fails}
use Rattle.cw_model.specs.Sites.{are_numbered, call_sites, heads_of}
use Rattle.cw_model.specs.SiteLaw.{SitesAreNumbered}
use Rattle.cw_model.specs.Sizes.{loop_faults}
use Rattle.cw_loops.specs.Seen.{WhyNotLowered}
use Rattle.cw_loops.specs.SourceLike.{is_source_like}
use Rattle.cw_loops.specs.LoweringLaws.{DerivedIsSourceLike}
use Rattle.cw_compile.specs.Sources
use Rattle.cw_compile.specs.Compiled.{IsMade, head_of}
use Rattle.std.specs.Global.{Vec}
use Rattle.cw_tree.specs.Resolved.{Function, plain_function}
use Rattle.cw_runnable.specs.declared.verified.Verified.{Verified}
use Rattle.cw_code.specs.Heads.{head_view}
use Rattle.cw_code.specs.declared.head.Head.{Head}

-- `plain_function` keeps the name and the line, so it keeps the head
plain_heads : (functions : List Function) → map head_of functions ≡ map (λ f. record { name = f.name; line = f.line }) (map plain_function functions)
plain_heads [] = refl
plain_heads (f ∷ functions) = ap (λ heads. head_of f ∷ heads) (plain_heads functions)

unparsed : (bytes : List ℕ) (ts : List Token) → Sources.HasTokens bytes ts → (f : Fault) → IsUnparsed bytes ts f → Sources.IsRejected bytes f
unparsed bytes ts has (fault.Size p) h = Sources.tokens ts has h
unparsed bytes ts has (fault.Syntax p) h = record { tokens = ts; has_tokens = has; syntax = h }
unparsed bytes ts has fault.Memory h = tt
unparsed bytes ts has _ h = absurd h

-- the text that the bytes were read to, its tokens, and the slice of the tokens
module _ (bytes text : List ℕ) (ts slice : List Token) (e : text ≡ bytes) (s : slice ≡ ts) (valid : IsSourceText text) (cut : IsTokenCut text ts) where
  tokens_of : Sources.HasTokens bytes ts
  tokens_of = record { text = subst IsSourceText e valid; cut = subst (λ x. IsTokenCut x ts) e cut }

  pub tree_refused : (f : Fault) → IsUnparsed text slice f → Sources.IsRejected bytes f
  tree_refused f h = unparsed bytes ts tokens_of f (subst (λ x. IsUnparsed x ts f) e (subst (λ x. IsUnparsed text x f) s h))

  pub source_of : (program : Program) → IsParsed text slice program → Sources.IsSourceOf bytes program
  source_of program tree =
      record { tokens = ts; has_tokens = tokens_of; parsed = subst (λ x. IsParsed x ts program) e (subst (λ x. IsParsed text x program) s tree) }

pub types_refused : (bytes : List ℕ) (program : Program) → Sources.IsSourceOf bytes program → (f : Fault) → IsIllTyped program f → Sources.IsRejected bytes f
types_refused bytes program source (fault.Size p) h = Sources.parts program source h
types_refused bytes program source (fault.Types p) h = record { program = program; source = source; types = h }
types_refused bytes program source fault.Memory h = tt
types_refused bytes program source _ h = absurd h

module _ (bytes : List ℕ) (program : Program) (source : Sources.IsSourceOf bytes program) (tree : Tree) (typed : IsTyped program tree) where
  ownership_refused : (f : Fault) → BreaksOwnership program f → Sources.IsRejected bytes f
  ownership_refused (fault.Ownership p) h = record { program = program; source = source; within = typed.within; typed = typed.typed; least = h }
  ownership_refused fault.Memory h = tt
  ownership_refused _ h = absurd h

  -- a resolved tree that breaks ownership
  pub tree_disowned : (f : Fault) → BreaksOwnership (program_of tree) f → Sources.IsRejected bytes f
  tree_disowned f h = ownership_refused f (subst (λ p. BreaksOwnership p f) typed.same h)

  module _ (other : Tree) (same : other ≡ tree) (owned : ownership_faults (program_of other) ≡ []) where
    is_program : program_of other ≡ program
    is_program = ap program_of same ∙ typed.same

    accepted : Sources.IsAccepted bytes program
    accepted = record { source = source; within = typed.within; typed = typed.typed; owned = subst (λ p. ownership_faults p ≡ []) is_program owned }

    pub numbered : SitesAreNumbered → are_numbered 0 (call_sites (program_of other)) ≡ true
    numbered law = ap (λ p. are_numbered 0 (call_sites p)) is_program ∙ law bytes source.tokens program source.parsed.derived

    loops_refused : (f : Fault) → WhyNotLowered program f → Sources.IsRejected bytes f
    loops_refused (fault.Size p) h = Sources.loops program accepted h
    loops_refused fault.Memory h = tt
    loops_refused _ h = absurd h

    -- an accepted program that has too many loops
    pub tree_has_many_loops : (f : Fault) → WhyNotLowered (program_of other) f → Sources.IsRejected bytes f
    tree_has_many_loops f h = loops_refused f (subst (λ p. WhyNotLowered p f) is_program h)

    pub source_like : DerivedIsSourceLike → is_source_like (program_of other) ≡ true
    source_like law = ap is_source_like is_program ∙ law bytes source.tokens program source.has_tokens.cut source.parsed.derived

    module _ (few_here : loop_faults (program_of other) ≡ []) where
      few : loop_faults program ≡ []
      few = sym (ap loop_faults is_program) ∙ few_here

      code_refused : (f : Fault) → gen.IsRejection program f → Sources.IsRejected bytes f
      code_refused (fault.Size p) h = Sources.code program accepted few h
      code_refused fault.Memory h = tt
      code_refused _ h = absurd h

      -- the code of a lowered tree that exceeds a limit
      pub tree_too_large : (f : Fault) → gen.IsRejection (program_of other) f → Sources.IsRejected bytes f
      tree_too_large f h = code_refused f (subst (λ p. gen.IsRejection p f) is_program h)

      -- generated code is well formed, so the verifier rejects it only if it is out of memory
      pub not_unfit : (code : declared.Code) → gen.Generates (program_of other) (code_view code) → (f : Fault) → Fails (Fits (code_view code) → ⊥) f → Sources.IsRejected bytes f
      not_unfit code g fault.Code h = absurd (h g.fits)
      not_unfit code g fault.Memory h = tt
      not_unfit code g _ h = absurd h

      -- the compiled code with the heads of its functions
      pub made : (code : declared.Code) → gen.Generates (program_of other) (code_view code) → (verified : Verified) → verified.code ≡ code → (heads : Vec Head)
          → map head_view heads.items ≡ map head_of (resolved_of other).functions → IsMade bytes (record { code = verified; heads = heads })
      made code h verified same_code heads are =
          let of_program : gen.Generates program (code_view code) = subst (λ p. gen.Generates p (code_view code)) is_program h in
          let g : gen.Generates program (code_view verified.code) = subst (λ c. gen.Generates program (code_view c)) (sym same_code) of_program in
          record {
            compiled = record { program = program; compiles = record { accepted = accepted; loops = few; small = g.small }; generates = g };
            are_heads = are ∙ plain_heads (resolved_of other).functions ∙ ap heads_of is_program;
          }
