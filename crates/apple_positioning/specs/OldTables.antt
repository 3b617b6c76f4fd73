-- A run of the whole older table `kern` over a line (TrueType Reference Manual, "The 'kern' table"), as HarfBuzz 10.2.0 runs it: subtables
-- with a state table and those that move glyphs across the line as of `kerx`, and the others by pairs along the line.
use Prim.Native.Nat.{zero}
use Rattle.std.specs.Prelude.{ℕ, suc, List, [], Bool, false, Option, ◌+◌, ◌&&◌, ◌||◌, min, not, length, nat_eq, nat_lt, take, if◌then◌else◌}
use Rattle.font_sizes.specs.declared.scales.Scale.{Scale}
use Rattle.kern_table.specs.Headers.{ends_table, first_start, format_of, length_of}
use Rattle.kern_table.specs.Tables.{charged, subtable_count_of, subtable_kerned, subtable_work}
use Rattle.shape_items.specs.Buffer.{Buffer}
use Rattle.shape_items.specs.BufferClusters.{unsafe_to_concat}
use Rattle.apple_positioning.specs.Layouts.{old_header_of}
use Rattle.apple_positioning.specs.Runs.{Source}
use Rattle.apple_positioning.specs.Tables.{chains, finished, one_run}
use Rattle.apple_positioning.specs.declared.old_tables.OldKerning.{OldKerning}
use Rattle.apple_positioning.specs.declared.values.Layout.TheVariants.{Kern}

-- ---- what a table has

-- some subtable is so, of so many from a place on
abbrev pub some_from : (ℕ → Bool) → List ℕ → ℕ → ℕ → Bool
some_from p t zero start = false
some_from p t (suc n) start = if ends_table t start then false else p start || some_from p t n (start + length_of t start)

abbrev pub some_subtable : (ℕ → Bool) → List ℕ → Bool
some_subtable p t = some_from p t (subtable_count_of t) (first_start t)

-- a subtable with a state table, and one that moves glyphs across the line
abbrev pub is_machine : List ℕ → ℕ → Bool
is_machine t start = nat_eq (format_of t start) 1

abbrev pub is_across : List ℕ → ℕ → Bool
is_across t start = (old_header_of t start).is_cross_stream

abbrev pub has_machine : List ℕ → Bool
has_machine t = some_subtable (is_machine t) t

abbrev pub has_across : List ℕ → Bool
has_across t = some_subtable (is_across t) t

-- a table that has neither
abbrev pub is_plain : List ℕ → Bool
is_plain t = not (has_machine t || has_across t)

-- ---- one subtable

-- the table, the size of the font, if it has one, and the mask of kerning
pub record Font : Type 0 where
  pub kern : List ℕ
  pub scale : Option Scale
  pub mask : ℕ

-- values for instances of a variable font are left out, as in HarfBuzz
abbrev pub runs_more : List ℕ → ℕ → Bool
runs_more t start = not (old_header_of t start).has_variation && (is_machine t start || is_across t start)

-- the bytes up to its end; the last one has all that are left
abbrev pub bytes_to : List ℕ → ℕ → Bool → List ℕ
bytes_to t start is_last = if is_last then t else take (min (start + length_of t start) (length t)) t

abbrev pub font_of : OldKerning → Font
font_of k = record { kern = k.kern.now; scale = k.scale; mask = k.mask }

abbrev pub source : Font → ℕ → Bool → Source
source f start is_last =
    record { layout = Kern start; bytes = bytes_to f.kern start is_last; ankr = []; glyphs = 0; scale = f.scale; mask = f.mask }

abbrev pub one_more : Font → ℕ → Bool → Bool → Buffer → Buffer
one_more f start is_last is_chained b = if runs_more f.kern start then one_run (source f start is_last) is_chained b
    else subtable_kerned f.scale f.kern start f.mask b

-- each glyph follows the one before it in the line from the first subtable on that moves glyphs across it
abbrev pub chained_after : Font → ℕ → Bool → Bool → Buffer → Bool
chained_after f start is_last is_chained b = is_chained || (runs_more f.kern start && chains (source f start is_last) is_chained b)

-- ---- the table

abbrev pub ended : Bool → Buffer → Buffer
ended is_chained b = if is_chained then finished b else b

-- so many subtables from a place on; each is charged for, and one that what is left doesn't suffice for ends the run
abbrev pub runs_on : Font → ℕ → ℕ → Bool → Buffer → Buffer
runs_on f zero start is_chained b = ended is_chained b
runs_on f (suc n) start is_chained b = if ends_table f.kern start then ended is_chained b
    else (if nat_lt b.max_ops (subtable_work (length b.items)) then ended is_chained (charged b)
    else runs_on f n (start + length_of f.kern start) (chained_after f start (nat_eq n 0) is_chained (charged b))
    (one_more f start (nat_eq n 0) is_chained (charged b)))

-- all of the text is unsafe to concatenate first, if the table has a state table or moves glyphs across the line
abbrev pub begun : Font → Buffer → Buffer
begun f b = if is_plain f.kern then b else unsafe_to_concat 0 (length b.items) b

-- a table that has neither does nothing if kerning is off everywhere
unfoldable pub kern_run : Font → Buffer → Buffer
kern_run f b = if nat_eq f.mask 0 && is_plain f.kern then b
    else runs_on f (subtable_count_of f.kern) (first_start f.kern) false (begun f b)
