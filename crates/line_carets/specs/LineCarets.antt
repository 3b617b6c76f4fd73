-- The carets of a line of several runs, in the order of the text.
use Rattle.std.specs.Prelude.{ℕ, nat_lt, ℤ, Bool, true, false, List, [], ◌∷◌, ◌++◌, map, reverse, Option, None, Some, slice_get, if◌then◌else◌}
use Rattle.shape_common.specs.Wrapping.{◌+ʷ◌}
use Rattle.shape_items.specs.declared.clusters.glyph_clusters.GlyphCluster.{GlyphCluster}
use Rattle.shape_carets.specs.Carets.{carets_of}
use Rattle.shape_carets.specs.declared.caret.Caret.{Caret}
use Rattle.text_lines.specs.Lines.{is_backward}
use Rattle.text_lines.specs.declared.lines.Glyph.{Glyph}
use Rattle.text_lines.specs.declared.lines.TextRun.{TextRun}

-- a glyph as a cluster: carets ask where its text begins, and how far it moves the pen
abbrev pub cluster_of : Glyph → GlyphCluster
cluster_of glyph = record { cluster = glyph.cluster; start = 0; end = 0; advance = glyph.x_advance; unsafe_to_break = false }

-- the glyphs of a run in the order of its text
abbrev pub clusters_of : TextRun → List GlyphCluster
clusters_of run =
    if is_backward run.level then reverse (map cluster_of run.glyphs.items) else map cluster_of run.glyphs.items

-- the carets of a run, seen from its left end
abbrev pub carets_of_run : List ℕ → TextRun → List Caret
carets_of_run stops run = carets_of (is_backward run.level) run.start run.end stops (clusters_of run)

-- a caret of a run that begins at x
abbrev pub moved : ℤ → Caret → Caret
moved x caret = record { offset = caret.offset; x = caret.x +ʷ x }

abbrev pub carets_if : List ℕ → Option TextRun → List Caret
carets_if stops None = []
carets_if stops (Some run) = map (moved run.x) (carets_of_run stops run)

-- the carets of runs, in the order of the text that their places stand in
abbrev pub all_carets : List ℕ → List TextRun → List ℕ → List Caret
all_carets stops runs [] = []
all_carets stops runs (place ∷ places) = carets_if stops (slice_get runs place) ++ all_carets stops runs places

abbrev pub is_before : Caret → List Caret → Bool
is_before caret [] = true
is_before caret (next ∷ carets) = nat_lt caret.offset next.offset

-- where two carets have one offset the later one stands: at the leading edge of the character after it
abbrev pub settled : List Caret → List Caret
settled [] = []
settled (caret ∷ carets) = if is_before caret (settled carets) then caret ∷ settled carets else settled carets

abbrev pub line_carets : List ℕ → List TextRun → List ℕ → List Caret
line_carets stops runs logical = settled (all_carets stops runs logical)
