-- The constant pieces of a page. They are literals of many bytes, so each is unfolded in the function that returns it,
-- and nowhere else.
use Rattle.std.specs.Prelude.{ℕ, List}
use Rattle.cw_report.specs.declared.page_style.TheConstants.{STYLE}
use Rattle.cw_report.specs.declared.page_script.TheConstants.{SCRIPT}
use Rattle.cw_report.specs.declared.page_frame.TheConstants.{BEFORE_TITLE, BEFORE_STYLE, BEFORE_SCRIPT, BEFORE_HEADING}
use Rattle.cw_report.specs.declared.page_frame.TheConstants.{BEFORE_ABOUT, BEFORE_SCALE, BEFORE_SPEEDUP, BEFORE_GAIN}
use Rattle.cw_report.specs.declared.page_frame.TheConstants.{BEFORE_SITES, BEFORE_OUTPUT, BEFORE_SOURCE, END}

-- the piece before the title
unfoldable pub before_title : List ℕ
before_title = BEFORE_TITLE.now

-- the piece before the style
unfoldable pub before_style : List ℕ
before_style = BEFORE_STYLE.now

-- the style
unfoldable pub style : List ℕ
style = STYLE.now

-- the piece before the script
unfoldable pub before_script : List ℕ
before_script = BEFORE_SCRIPT.now

-- the script
unfoldable pub script : List ℕ
script = SCRIPT.now

-- the piece before the heading
unfoldable pub before_heading : List ℕ
before_heading = BEFORE_HEADING.now

-- the piece before the about
unfoldable pub before_about : List ℕ
before_about = BEFORE_ABOUT.now

-- the piece before the scale
unfoldable pub before_scale : List ℕ
before_scale = BEFORE_SCALE.now

-- the piece before the speedup
unfoldable pub before_speedup : List ℕ
before_speedup = BEFORE_SPEEDUP.now

-- the piece before the gain
unfoldable pub before_gain : List ℕ
before_gain = BEFORE_GAIN.now

-- the piece before the sites
unfoldable pub before_sites : List ℕ
before_sites = BEFORE_SITES.now

-- the piece before the output
unfoldable pub before_output : List ℕ
before_output = BEFORE_OUTPUT.now

-- the piece before the source
unfoldable pub before_source : List ℕ
before_source = BEFORE_SOURCE.now

-- the piece after the last hole
unfoldable pub end : List ℕ
end = END.now
