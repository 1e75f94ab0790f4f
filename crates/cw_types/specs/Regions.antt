-- The regions of a program, as the code lists them.
use Rattle.std.specs.Prelude.{◌≡◌, ℕ, List, [], ◌++◌, map, flat_map}
use Rattle.std.specs.Global.{Vec}
use Rattle.cw_model.specs.Sizes.{first_places, regions_in_block}
use Rattle.cw_model.specs.Syntax.{Name}
use Rattle.cw_tree.specs.declared.syntax.Function.{Function}
use Rattle.cw_tree.specs.SyntaxView.{function_of}
use Rattle.cw_types.specs.declared.regions.Marked.{Marked}

-- the abstraction of a region: its tag and its line
abbrev pub region_of : Marked → Name × ℕ
region_of m = (m.tag.now, m.line)

-- the abstraction of regions
abbrev pub regions_of : List Marked → List (Name × ℕ)
regions_of ms = map region_of ms

-- the tags of regions
abbrev pub tags_of : List Marked → List Name
tags_of ms = map (λ m. m.tag.now) ms

-- the regions of functions
abbrev pub regions_of_all : List Function → List (Name × ℕ)
regions_of_all functions = flat_map (λ f. regions_in_block f.body) (map function_of functions)

-- the first region of each tag
abbrev pub AreFirst : List Marked → Vec Marked → Type 0
AreFirst regions found = regions_of found.items ≡ first_places (regions_of regions) []

-- the first region of each tag of functions
abbrev pub AreFirstOfAll : List Function → Vec Marked → Type 0
AreFirstOfAll functions found = regions_of found.items ≡ first_places (regions_of_all functions) []

-- the regions follow those found before
abbrev pub Adds : List (Name × ℕ) → (before after : Vec Marked) → Type 0
Adds regions before after = regions_of after.items ≡ regions_of before.items ++ regions
