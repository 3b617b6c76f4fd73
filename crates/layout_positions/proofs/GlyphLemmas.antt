-- lookups of positioning keep which glyphs there are
use Prim.Native.Nat.{zero}
use Rattle.std.proofs.Common.{◌≡◌, ℕ, suc, ◌<◌, true, List, [], ◌∷◌, map, length, slice_index_or, refl, sym, ap, subst, ◌∙◌}
use Rattle.std.proofs.lemmas.List.{length-map}
use Rattle.shape_items.specs.Buffer.{Buffer}
use Rattle.shape_items.specs.Items.{Item, new_item}
use Rattle.layout_matching.specs.Skipping.{nth}
use Rattle.layout_matching.specs.declared.lookup.Lookup.{Lookup}
use Rattle.layout_digests.specs.Digests.{has}
use Rattle.layout_digests.specs.declared.digest.Digest.{Digest}
use Rattle.layout_positions.specs.Digested.{HoldsGlyphs}
use Rattle.layout_positions.specs.Walk.{Budgeted, lookup_applied}
use Rattle.layout_positions.proofs.KeyLemmas.{SameKeys, keys-applied}

abbrev glyph_of : Item → ℕ
glyph_of x = x.glyph_id

-- the part of an item in a list, by the list of those parts
pub key_at : {B : Type 0} (key : Item → B) (xs : List Item) (i : ℕ)
    → key (nth xs i) ≡ slice_index_or (map key xs) i (key (new_item 0 0))
key_at key [] i = refl
key_at key (x ∷ xs) zero = refl
key_at key (x ∷ xs) (suc i) = key_at key xs i

pub length_by_keys : {B : Type 0} (key : Item → B) (xs ys : List Item) → map key xs ≡ map key ys → length xs ≡ length ys
length_by_keys key xs ys same = sym (length-map xs key) ∙ ap length same ∙ length-map ys key

pub key_by_keys : {B : Type 0} (key : Item → B) (xs ys : List Item) (i : ℕ) → map key xs ≡ map key ys → key (nth xs i) ≡ key (nth ys i)
key_by_keys key xs ys i same =
    key_at key xs i ∙ ap (λ ks. slice_index_or ks i (key (new_item 0 0))) same ∙ sym (key_at key ys i)

held-same : (b c : Buffer) (run : Digest) → SameKeys glyph_of b c → HoldsGlyphs run b.items → HoldsGlyphs run c.items
held-same b c run same held i inside =
    subst (λ g. has run g ≡ true) (sym (key_by_keys glyph_of c.items b.items i same))
    (held i (subst (λ n. i < n) (length_by_keys glyph_of c.items b.items same) inside))

-- so a set that holds the glyphs of a list holds them after each lookup
pub held_applied : (l : Lookup) (here next : Budgeted) (run : Digest) → next ≡ lookup_applied here l → HoldsGlyphs run here.buffer.items
    → HoldsGlyphs run next.buffer.items
held_applied l here next run is held =
    subst (λ (s : Budgeted). HoldsGlyphs run s.buffer.items) (sym is)
    (held-same here.buffer (lookup_applied here l).buffer run (keys-applied glyph_of (λ x m. refl) l here) held)
