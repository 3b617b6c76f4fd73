-- Which font shows which cluster of a text, by which fonts have it.
use Rattle.std.specs.Prelude.{◌≡◌, ◌≢◌, ◌⊎◌, ℕ, ◌+◌, ◌<◌, ◌≤◌, Bool, false, List, [], ◌∷◌, map, length, ◌++◌, ⊤, slice_index_or, Option, Some, None}
use Rattle.std.specs.Prelude.{unwrap_or, if◌then◌else◌}
use Rattle.font_fallback.specs.declared.choosing.Tried.{Tried}
use Rattle.font_fallback.specs.declared.spans.Span.{Span}

-- whether a font has a cluster, by the list of what it has; what stands past its end it hasn't
abbrev pub has_by : List Bool → ℕ → Bool
has_by row cluster = slice_index_or row cluster false

-- the first of the fonts from `font` on that has a cluster, each given by what it has
abbrev pub first_with : ℕ → List (List Bool) → ℕ → Option ℕ
first_with font [] cluster = None
first_with font (row ∷ rows) cluster = if has_by row cluster then Some font else first_with (font + 1) rows cluster

-- the font that shows a cluster: the first that has it, and the first of the list if none has
abbrev pub font_in : Option ℕ → ℕ
font_in found = unwrap_or found 0

abbrev pub font_of : List (List Bool) → ℕ → ℕ
font_of rows cluster = font_in (first_with 0 rows cluster)

-- one more font is tried: a cluster that has a font stays with it
abbrev pub found_in : Option ℕ → ℕ → Bool → Option ℕ
found_in (Some earlier) font has = Some earlier
found_in None font has = if has then Some font else None

-- a span that begins at a cluster: it has clusters, and each of them is of its font
pub record IsSpan (font_at : ℕ → ℕ) (start : ℕ) (span : Span) : Type 0 where
  pub begins : span.start ≡ start
  pub some : start < span.end
  pub one_font : (k : ℕ) → start ≤ k → k < span.end → font_at k ≡ span.font

-- spans of the clusters from one place up to another: each begins where the one before it ends, and goes on as long as its
-- font does
abbrev pub AreSpans : (ℕ → ℕ) → ℕ → ℕ → List Span → Type 0
AreSpans font_at start end [] = start ≡ end
AreSpans font_at start end (span ∷ spans) =
    IsSpan font_at start span × ((span.end ≡ end) ⊎ (font_at span.end ≢ span.font)) × AreSpans font_at span.end end spans

-- what each font has that was tried
abbrev pub has_of : {T : Type 0} → Tried T → List Bool
has_of one = one.has.items

abbrev pub rows_of : {T : Type 0} → List (Tried T) → List (List Bool)
rows_of {T} tried = map (has_of {T = T}) tried

-- no cluster is left without a font of these
abbrev pub HaveAll : List (List Bool) → ℕ → Type 0
HaveAll rows clusters = (k : ℕ) → k < clusters → first_with 0 rows k ≢ None

-- the spans of a text by the fonts that were tried: each cluster has the font that shows it; all fonts were tried, if not those
-- that were have all clusters; and one fewer would not have had
pub record HasFonts (rows : List (List Bool)) (fonts clusters : ℕ) (spans : List Span) : Type 0 where
  pub spans_of : AreSpans (font_of rows) 0 clusters spans
  pub within : length rows ≤ fonts
  pub enough : (length rows ≡ fonts) ⊎ HaveAll rows clusters
  pub no_more : (fewer : List (List Bool)) (last : List Bool) → rows ≡ fewer ++ last ∷ [] → HaveAll fewer clusters → ⊥

-- what was tried is what calls gave, one after another, each with the next font: from one state of the function that tries up to
-- another
pub data AreTries {C T : Type 0} (gives : C → ℕ → T → C → Type 0) : C → ℕ → List T → C → Type 0 where
  no_tries : {now : C} {font : ℕ} → AreTries gives now font [] now
  one_more : {now next last : C} {font : ℕ} {one : T} {tried : List T} → gives now font one next
      → AreTries gives next (font + 1) tried last → AreTries gives now font (one ∷ tried) last
