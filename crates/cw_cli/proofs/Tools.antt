-- A source is read up to one byte past its limit, and lines are written to standard error.
use Rattle.std.proofs.Common.{◌≡◌, ℕ, ℤ, option_map, IfSome, ◌<◌, ◌≤◌, ◌⊎◌, inl, inr, List, [], ◌++◌, ◌+◌, length, take}
use Rattle.std.proofs.Common.{Option, Some, None, Result, Ok, Err, refl, sym, subst, arith, Bool, true, false}
use Rattle.std.proofs.lemmas.List.{append-nil, take_all, length-take-le}
use Rattle.std.specs.Prelude.{nat_le, is_err, string_bytes, OnOk}
use Rattle.std.proofs.lemmas.Bool.Decides.{nat_tests}
use Rattle.std.specs.Io.KnownBytes.{Appends}
use Rattle.cw_model.specs.declared.limits.TheConstants.{MOST_SOURCE_BYTES}
use Rattle.cw_model.specs.Text.{IsSourceText}
use Rattle.cw_text.specs.declared.fault.Fault.{Fault}
use Rattle.cw_text.specs.declared.fault.Fault.TheVariants as fault
use Rattle.cw_report.specs.Seen.{Seen}
use Rattle.cw_report.specs.Sinks.{Writes}
use Rattle.cw_compile.specs.Sources as sources
use Rattle.cw_cli.specs.Analyses as analyses
use Rattle.cw_cli.specs.Analyses.{IsAnalysed, IsAnalysedBy}
use Rattle.cw_cli.specs.Pages.{source_name}
use Rattle.cw_words.specs.declared.asked.Mode.{Mode}
use Rattle.cw_words.specs.declared.asked.Mode.TheVariants as mode
use Rattle.cw_cli.specs.Tools as tools
use Rattle.cw_words.specs.declared.asked.Request.{Request}
use Rattle.cw_words.specs.declared.asked.Options.{Options}

-- a write whose result is dropped
pub tries : {W A : Type 0} (seen : W → Seen) (old new : W) (text : List ℕ) (r : Result A Fault) → Writes (seen old) (seen new) text r → tools.TriesText seen old new text
tries seen old new text (Ok x) p = inl p
tries seen old new text (Err e) p = inr p.1

-- no write at all
pub idle : {W : Type 0} (seen : W → Seen) (w : W) → tools.TriesText seen w w []
idle seen w = inl (record { bytes = nothing (seen w).bytes; failed = refl })
  where
    nothing : (known : Option (List ℕ)) → Appends known known []
    nothing None = tt
    nothing (Some xs) = sym (append-nil xs)

-- a text with nothing after it
pub alone : {W : Type 0} (seen : W → Seen) (old new : W) (explain : Bool) (text : List ℕ) → tools.TriesText seen old new text → tools.WritesMessage seen old new explain text
alone seen old new explain text p = record { between = new; line = p; behind = []; explanation = idle seen new; plain = λ _. refl }

-- one byte more than a source may have
abbrev most_read : ℕ
most_read = MOST_SOURCE_BYTES + 1

shorter_or_longer : (n m : ℕ) → (n ≤ m) ⊎ (m < n)
shorter_or_longer n m = tested (nat_le n m) refl
  where
    tested : (b : Bool) → nat_le n m ≡ b → (n ≤ m) ⊎ (m < n)
    tested true e = inl (grind (arith, nat_tests, e))
    tested false e = inr (grind (arith, nat_tests, e))

module _ (bytes : List ℕ) (long : MOST_SOURCE_BYTES < length bytes) where
  -- if the source is too long, the byte past the limit is read, too
  too_long : MOST_SOURCE_BYTES < length (take most_read bytes)
  too_long = let e = length-take-le most_read bytes (omega (arith, long)) in omega (arith, e)

  no_source : IsSourceText (take most_read bytes) → ⊥
  no_source text = omega (arith, text.short, too_long)

  refused_whole : (f : Fault) → sources.IsRejected (take most_read bytes) f → sources.IsRejected bytes f
  refused_whole (fault.Lexical p) h = absurd (lexical h)
    where
      lexical : sources.IsLexicallyRejected (take most_read bytes) p.line → ⊥
      lexical (sources.byte n) = omega (arith, n.short, too_long)
      lexical (sources.token text fault) = no_source text
  refused_whole (fault.Size p) h = size h
    where
      size : sources.PassesLimit (take most_read bytes) p.line → sources.PassesLimit bytes p.line
      size (sources.length l) = sources.length (record { long = long; first = l.first })
      size (sources.name text fault) = absurd (no_source text)
      size (sources.tokens ts has least) = absurd (no_source has.text)
      size (sources.parts program source least) = absurd (no_source source.has_tokens.text)
      size (sources.loops program accepted least) = absurd (no_source accepted.source.has_tokens.text)
      size (sources.code program accepted taken least) = absurd (no_source accepted.source.has_tokens.text)
  refused_whole (fault.Syntax p) h = absurd (no_source h.has_tokens.text)
  refused_whole (fault.Types p) h = absurd (no_source h.source.has_tokens.text)
  refused_whole (fault.Ownership p) h = absurd (no_source h.source.has_tokens.text)
  refused_whole fault.Memory h = h
  refused_whole _ h = absurd h

  module _ {W : Type 0} (seen : W → Seen) (old new : W) (name : List ℕ) (args : List ℤ) (options : Options) where
    refused_for : (f : Fault) → analyses.IsRejectedFor seen old new name (take most_read bytes) args options f → analyses.IsRejectedFor seen old new name bytes args options f
    refused_for f h = record { refused = refused_whole f h.refused; untouched = h.untouched }

    unreported_whole : (f : Fault) → analyses.IsUnreported seen old new name (take most_read bytes) args options f → analyses.IsUnreported seen old new name bytes args options f
    unreported_whole fault.OverLimit h = absurd (no_source h.run.compiles.accepted.source.has_tokens.text)
    unreported_whole (fault.Trap trap line printed) h = absurd (no_source h.run.compiles.accepted.source.has_tokens.text)
    unreported_whole fault.Memory h = h
    unreported_whole fault.Write h = absurd (no_source h.run.compiles.accepted.source.has_tokens.text)
    unreported_whole fault.Arguments h = absurd (no_source h.compiles.accepted.source.has_tokens.text)
    unreported_whole (fault.Lexical p) h = refused_for (fault.Lexical p) h
    unreported_whole (fault.Syntax p) h = refused_for (fault.Syntax p) h
    unreported_whole (fault.Types p) h = refused_for (fault.Types p) h
    unreported_whole (fault.Ownership p) h = refused_for (fault.Ownership p) h
    unreported_whole (fault.Size p) h = refused_for (fault.Size p) h
    unreported_whole fault.Code h = absurd h.refused
    unreported_whole (fault.Strands count) h = absurd (no_source h.run.compiles.accepted.source.has_tokens.text)

    unchecked_whole : (f : Fault) → analyses.IsUnchecked seen old new name (take most_read bytes) args options f → analyses.IsUnchecked seen old new name bytes args options f
    unchecked_whole fault.OverLimit h = h
    unchecked_whole (fault.Trap trap line printed) h = h
    unchecked_whole fault.Memory h = h
    unchecked_whole fault.Write h = absurd (no_source h.compiles.accepted.source.has_tokens.text)
    unchecked_whole fault.Arguments h = h
    unchecked_whole (fault.Lexical p) h = refused_for (fault.Lexical p) h
    unchecked_whole (fault.Syntax p) h = refused_for (fault.Syntax p) h
    unchecked_whole (fault.Types p) h = refused_for (fault.Types p) h
    unchecked_whole (fault.Ownership p) h = refused_for (fault.Ownership p) h
    unchecked_whole (fault.Size p) h = refused_for (fault.Size p) h
    unchecked_whole fault.Code h = absurd h.refused
    unchecked_whole (fault.Strands count) h = absurd h.refused

    run_whole : (r : Result (Unit {0}) Fault) → analyses.IsRun seen old new name (take most_read bytes) args options r → analyses.IsRun seen old new name bytes args options r
    run_whole (Ok done) h = absurd (no_source h.run.compiles.accepted.source.has_tokens.text)
    run_whole (Err f) h = unreported_whole f h

    long_whole : (m : Mode) (r : Result (Unit {0}) Fault) → analyses.IsAnalysedIn seen old new name (take most_read bytes) args options m r → analyses.IsAnalysedIn seen old new name bytes args options m r
    long_whole mode.Check (Ok done) h = absurd (no_source h.compiles.accepted.source.has_tokens.text)
    long_whole mode.Check (Err f) h = unchecked_whole f h
    long_whole mode.Run r h = run_whole r h
    long_whole mode.Scale r h = run_whole r h
    long_whole mode.Sites r h = run_whole r h
    long_whole (mode.Gain top) r h = run_whole r h
    long_whole (mode.Greedy processors) r h = run_whole r h
    long_whole (mode.Speedup most) r h = run_whole r h
    long_whole (mode.Page top most) r h = run_whole r h

module _ {W : Type 0} (seen : W → Seen) (old new : W) (name : List ℕ) (args : List ℤ) (options : Options) where
  -- the result of an analysis of the bytes that were read is the result for the whole source
  whole : (bytes : List ℕ) (r : Result (Unit {0}) Fault) → IsAnalysed seen old new name (take most_read bytes) args options r → IsAnalysed seen old new name bytes args options r
  whole bytes r h = by_length (shorter_or_longer (length bytes) MOST_SOURCE_BYTES)
    where
      by_length : (length bytes ≤ MOST_SOURCE_BYTES) ⊎ (MOST_SOURCE_BYTES < length bytes) → IsAnalysed seen old new name bytes args options r
      by_length (inl short) = subst (λ bs. IsAnalysed seen old new name bs args options r) (take_all most_read bytes (omega (arith, short))) h
      by_length (inr long) = long_whole bytes long seen old new name args options options.mode r h

  -- the result of an analysis by a crew is the result for the whole source, too
  whole_by : (bytes : List ℕ) (bodies : ℕ) (r : Result (Unit {0}) Fault) → IsAnalysedBy seen old new name (take most_read bytes) args options bodies r
      → IsAnalysedBy seen old new name bytes args options bodies r
  whole_by bytes bodies r h = record { fits = λ few. whole bytes r (h.fits few); refused = h.refused; untouched = h.untouched }

-- the number of failed reads increased
pub grew : (before after old new : ℕ) → before ≡ old → after ≡ new → before < after → old < new
grew before after old new b a h = omega (arith, b, a, h)

-- the postcondition of a read that did not fail
pub on_ok : {A E : Type 0} (r : Result A E) (P : Type 0) → is_err r ≡ false → OnOk r P → P
on_ok (Ok x) P h p = p
on_ok (Err e) P h p = cc

-- a property of all bytes holds for the bytes of a source
pub of_any : (known : Option (List ℕ)) (P : List ℕ → Type 0) → ((bytes : List ℕ) → P bytes) → tools.OnItsBytes known P
of_any None P h = ([], tt, h [])
of_any (Some bytes) P h = (bytes, refl, h bytes)

-- the bytes that were read, if nothing else is known, or the whole source
of_read : (known : Option (List ℕ)) (read : List ℕ) → IfSome (option_map (take most_read) known) (λ bytes. read ≡ bytes) → (P : List ℕ → Type 0) → P read
    → ((bytes : List ℕ) → read ≡ take most_read bytes → P bytes) → tools.OnItsBytes known P
of_read None read h P here more = (read, tt, here)
of_read (Some bytes) read h P here more = (bytes, refl, more bytes h)

module _ {W E : Type 0} (seen : W → Seen) (seen' : E → Seen) (old new : W) (old' new' : E) (asked : Request) (bodies reads_before reads_after : ℕ) where
  module _ {D : Type 0} (remaining : D → Option (List ℕ)) (source inner : D) (limit : ℕ) (name before read slice : List ℕ) (args : List ℤ) where
    -- the result for the bytes that were read is the answer for the source
    pub answered : limit ≡ most_read → inner ≡ source → before ≡ [] → slice ≡ read → args ≡ asked.args.items → name ≡ source_name (string_bytes asked.file) →
        IfSome (option_map (take limit) (remaining inner)) (λ xs. read ≡ before ++ xs) →
        (r : Result (Unit {0}) Fault) (status : ℕ) → status ≡ tools.status_of r → IsAnalysedBy seen old new name slice args asked.options bodies r
        → tools.WritesMessage seen' old' new' asked.explain (tools.line_of r) →
        tools.OnItsBytes (remaining source) (λ bytes. tools.IsToolAnswer seen old new seen' old' new' asked bodies reads_before reads_after bytes status)
    answered l i b s a n h r status st analysis told =
        let h1 = subst (λ d. IfSome (option_map (take limit) (remaining d)) (λ xs. read ≡ before ++ xs)) i h in
        let h2 = subst (λ k. IfSome (option_map (take k) (remaining source)) (λ xs. read ≡ before ++ xs)) l h1 in
        let h3 : IfSome (option_map (take most_read) (remaining source)) (λ xs. read ≡ xs) = subst (λ p. IfSome (option_map (take most_read) (remaining source)) (λ xs. read ≡ p ++ xs)) b h2 in
        let file = source_name (string_bytes asked.file) in
        let of_slice : IsAnalysedBy seen old new name read args asked.options bodies r = subst (λ bs. IsAnalysedBy seen old new name bs args asked.options bodies r) s analysis in
        let of_args : IsAnalysedBy seen old new name read asked.args.items asked.options bodies r = subst (λ vs. IsAnalysedBy seen old new name read vs asked.options bodies r) a of_slice in
        let of_asked : IsAnalysedBy seen old new file read asked.args.items asked.options bodies r = subst (λ x. IsAnalysedBy seen old new x read asked.args.items asked.options bodies r) n of_args in
        of_read (remaining source) read h3 (λ bytes. tools.IsToolAnswer seen old new seen' old' new' asked bodies reads_before reads_after bytes status)
        (subst (λ k. tools.IsToolAnswer seen old new seen' old' new' asked bodies reads_before reads_after read k) (sym st) (tools.analysed r of_asked told))
        (λ bytes e.
        let of_bytes : IsAnalysedBy seen old new file (take most_read bytes) asked.args.items asked.options bodies r =
        subst (λ bs. IsAnalysedBy seen old new file bs asked.args.items asked.options bodies r) e of_asked in
        subst (λ k. tools.IsToolAnswer seen old new seen' old' new' asked bodies reads_before reads_after bytes k) (sym st)
        (tools.analysed r (whole_by seen old new file asked.args.items asked.options bytes bodies r of_bytes) told))
