-- The lines that exceed a limit, and the effect of recording the lines of tags.
use Rattle.std.specs.Prelude.{◌≡◌, ℕ, nat_le, List, [], ◌∷◌, length, map, drop}
use Rattle.cw_model.specs.declared.limits.TheConstants.{MOST_FUNCTIONS, MOST_REDUCERS, MOST_TAG_BYTES, MOST_TAGS}
use Rattle.cw_model.specs.Lines.{lowest, unless}
use Rattle.cw_model.specs.Sizes.{first_places, lines_beyond}
use Rattle.cw_model.specs.Syntax.{Name}
use Rattle.cw_tree.specs.declared.syntax.Function.{Function}
use Rattle.cw_tree.specs.declared.syntax.Reducer.{Reducer}
use Rattle.cw_tree.specs.SyntaxView.{function_of, reducer_of}
use Rattle.cw_text.specs.declared.least.LeastLine.{LeastLine}
use Rattle.cw_types.specs.Names.{known_names}
use Rattle.cw_types.specs.Scope.{Declared, kinds}
use Rattle.cw_types.specs.declared.regions.Marked.{Marked}
use Rattle.cw_types.specs.Regions.{region_of}

-- the lines of functions
abbrev pub function_lines : List Function → List ℕ
function_lines functions = map (λ f. f.line) (map function_of functions)

-- the lines of reducers
abbrev pub reducer_lines : List Reducer → List ℕ
reducer_lines reducers = map (λ r. r.line) (map reducer_of reducers)

-- the lines of the functions past the limit
abbrev pub functions_past : List Function → List ℕ
functions_past functions = lines_beyond MOST_FUNCTIONS (function_lines functions)

-- the lines of the reducers past the limit
abbrev pub reducers_past : List Reducer → List ℕ
reducers_past reducers = lines_beyond MOST_REDUCERS (reducer_lines reducers)

-- the line of a region whose tag is too long
abbrev pub long_tag : Name × ℕ → List ℕ
long_tag d = unless (nat_le (length d.0) MOST_TAG_BYTES) d.1

-- the lines of the first regions of the tags past the limit
abbrev pub tags_past : List (Name × ℕ) → List ℕ
tags_past regions = lines_beyond MOST_TAGS (map (λ d. d.1) (first_places regions []))

-- the lines of the first regions of tags that are not among those seen
abbrev pub places_behind : List Declared → List (Name × ℕ) → List ℕ
places_behind seen regions = map (λ d. d.1) (first_places regions (known_names (kinds seen)))

-- this region is recorded if its tag is new and past the room for `room` new tags; room for `left` remains
abbrev pub TakesTag : (room : ℕ) → Marked → (seen after_seen : List Declared) → (before after : LeastLine) → (left : ℕ) → Type 0
TakesTag room region seen after_seen before after left =
    (more : List (Name × ℕ)) →
    lowest after.line (drop left (places_behind after_seen more))
    ≡ lowest before.line (drop room (places_behind seen (region_of region ∷ more)))
