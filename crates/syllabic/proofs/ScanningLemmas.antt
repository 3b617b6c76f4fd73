-- Numbering syllables keeps clusters, flags and the number of items. What finds the same syllables numbers alike.
use Rattle.std.proofs.Common.{◌≡◌, ℕ, zero, suc, ◌+◌, ◌<◌, ◌==◌, true, false, List, [], ◌∷◌, length, drop, get_or, refl, ap, sym, ◌∙◌}
use Rattle.std.proofs.Math.Seq.{map-set_same}
use Rattle.std.proofs.lemmas.List.{drop_more}
use Rattle.shape_items.specs.Buffer.{Buffer}
use Rattle.shape_items.specs.Items.{Item, new_item}
use Rattle.syllables.specs.Reading.{read_one, read_all}
use Rattle.syllables.specs.declared.reading.Scan.{Scan}
use Rattle.syllables.specs.declared.reading.Stretch.{Stretch}
use Rattle.syllables.specs.declared.scanner.Machine.{Machine}
use Rattle.syllables.specs.declared.scanner.Syllable.{Syllable}
use Rattle.syllables.proofs.ReadingLemmas.{over-stays}
use Rattle.syllabic.specs.Scanning.{Cut, categories_of, put_in_syllable, numbered_next, numbered_to, syllables_numbered, entered, begun}
use Rattle.syllabic.specs.Walking.{category_of}
use Rattle.syllabic.specs.declared.scanning.Numbering.{Numbering}
use Rattle.syllabic.proofs.PreservationLemmas.{Keeps, Keeps-same, Keeps-then, Keeps-set, leaves-same_mask}

abbrev with_byte : ℕ → Item → Item
with_byte byte item = record item { properties = record item.properties { syllable = byte } }

Keeps-put_in_syllable : (byte i : ℕ) (b : Buffer) → Keeps b (put_in_syllable byte i b)
Keeps-put_in_syllable byte i b = Keeps-set (with_byte byte) (leaves-same_mask (with_byte byte) (λ x. refl) (λ x. refl)) i b

Keeps-numbered_to : (cut : Cut) (skipped n : ℕ) (b : Buffer) → Keeps b (numbered_to cut skipped n b).0
Keeps-numbered_to cut skipped zero b = Keeps-same b
Keeps-numbered_to cut skipped (suc i) b =
    let before = (numbered_to cut skipped i b).0 in
    Keeps-then b before (numbered_to cut skipped (suc i) b).0 (Keeps-numbered_to cut skipped i b)
    (Keeps-put_in_syllable _ i before)

pub Keeps-syllables : (cut : Cut) (skipped : ℕ) (b : Buffer) → Keeps b (syllables_numbered cut skipped b)
Keeps-syllables cut skipped b = Keeps-numbered_to cut skipped (length b.items) b

-- ---- categories

-- a syllable leaves the categories
pub categories-put : (byte i : ℕ) (b : Buffer) → categories_of (put_in_syllable byte i b).items ≡ categories_of b.items
categories-put byte i b = map-set_same category_of b.items i _ (new_item 0 0) refl

pub categories-drop : (n : ℕ) (items : List Item) → drop n (categories_of items) ≡ categories_of (drop n items)
categories-drop zero items = refl
categories-drop (suc n) [] = refl
categories-drop (suc n) (x ∷ xs) = categories-drop n xs

-- ---- scans

-- a scan that is over with an item is what the rest of the text makes of the one before it
pub scan-ends : (m : Machine) (vain : Stretch) (scan : Scan) (i : ℕ) (infos : List Item) (x : Item) (next : Scan) → i < length infos
    → x ≡ get_or infos i x → scan.over ≡ false → next ≡ read_one m vain scan (category_of x) (i + 1) → next.over ≡ true
    → next ≡ read_all m vain scan i (categories_of (drop i infos))
scan-ends m vain scan i infos x next within at going read over =
    let cs = categories_of (drop (i + 1) infos) in
    let rest : drop i infos ≡ x ∷ drop (i + 1) infos = drop_more infos i x within ∙ ap (λ (y : Item). y ∷ drop (i + 1) infos) (sym at) in
    let first : read_all m vain scan i (category_of x ∷ cs) ≡ read_all m vain (read_one m vain scan (category_of x) (i + 1)) (i + 1) cs
    = rw going refl in
    sym (ap (λ (l : List Item). read_all m vain scan i (categories_of l)) rest
    ∙ first
    ∙ ap (λ (s : Scan). read_all m vain s (i + 1) cs) (sym read)
    ∙ over-stays m vain next (i + 1) cs over)

-- where no item is left the syllable that has been found begins
pub entered-begun : (cut : Cut) (numbering : Numbering) (items : List Item) (syllable : Syllable) → (numbering.left == 0) ≡ true
    → syllable ≡ cut (categories_of items) → begun numbering.serial syllable ≡ entered cut numbering items
entered-begun cut numbering items syllable none is = rw none (ap (begun numbering.serial) is)

-- ---- what finds the same syllables

abbrev Same : Cut → Cut → Type 0
Same f g = (xs : List ℕ) → f xs ≡ g xs

entered-same : (f g : Cut) → Same f g → (numbering : Numbering) (items : List Item) → entered f numbering items ≡ entered g numbering items
entered-same f g same numbering items = rw (same (categories_of items)) refl

next-same : (f g : Cut) → Same f g → (i : ℕ) (b : Buffer) (numbering : Numbering)
    → numbered_next f i (b, numbering) ≡ numbered_next g i (b, numbering)
next-same f g same i b numbering = rw (entered-same f g same numbering (drop i b.items)) refl

to-same : (f g : Cut) → Same f g → (skipped n : ℕ) (b : Buffer) → numbered_to f skipped n b ≡ numbered_to g skipped n b
to-same f g same skipped zero b = refl
to-same f g same skipped (suc i) b =
    ap (numbered_next f i) (to-same f g same skipped i b)
    ∙ next-same f g same i (numbered_to g skipped i b).0 (numbered_to g skipped i b).1

pub numbered-same : (f g : Cut) → Same f g → (skipped : ℕ) (b : Buffer) → syllables_numbered f skipped b ≡ syllables_numbered g skipped b
numbered-same f g same skipped b = ap (λ (r : Buffer × Numbering). r.0) (to-same f g same skipped (length b.items) b)
