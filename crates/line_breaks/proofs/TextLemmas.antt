-- The bytes of a text, and its units, one more character on.
use Rattle.std.proofs.Common.{◌≡◌, ℕ, ◌+◌, ◌<◌, Bool, List, [], ◌∷◌, length, get_or, drop, refl, ap, sym, ◌∙◌, length-append}
use Rattle.std.proofs.Math.Utf8.{encodes}
use Rattle.std.proofs.lemmas.List.{at_drop_more}
use Rattle.std.proofs.lemmas.List.Sums.{sum_by-cons, sum_by-drop_more}
use Rattle.std.proofs.lemmas.Str.{encodes-chars, length-encode}
use Rattle.std.specs.Char.{len_utf8}
use Rattle.std.specs.List.{sum_by}
use Rattle.std.specs.Str.{chars, IsUtf8}
use Rattle.ucd_breaks.specs.declared.LineBreak.TheVariants.{Zwj}
use Rattle.line_breaks.specs.Letters.{is, letter_of}
use Rattle.line_breaks.specs.Units.{put, takes_after, units_from}
use Rattle.line_breaks.specs.declared.units.Unit.{Unit}

length-encodes : (cs : List ℕ) → length (encodes cs) ≡ sum_by len_utf8 cs
length-encodes [] = refl
length-encodes (c ∷ cs) = rw (length-append, length-encode, length-encodes cs, sum_by-cons) refl

-- the bytes of a text are those of its characters
pub sum_by-chars : (bs : List ℕ) → IsUtf8 bs → sum_by len_utf8 (chars bs) ≡ length bs
sum_by-chars bs u = sym (length-encodes (chars bs)) ∙ ap length (encodes-chars bs u)

-- one more character
pub bytes_step : (cs : List ℕ) (n c : ℕ) → (n < length cs) × (c ≡ get_or cs n c)
    → sum_by len_utf8 (drop n cs) ≡ len_utf8 c + sum_by len_utf8 (drop (n + 1) cs)
bytes_step cs n c (lt, e) =
    sum_by-drop_more len_utf8 cs n c lt ∙ ap (λ x. len_utf8 x + sum_by len_utf8 (drop (n + 1) cs)) (sym e)

pub units_step : (cs : List ℕ) (n c offset : ℕ) (takes joined : Bool) (units : List Unit) → (n < length cs) × (c ≡ get_or cs n c)
    → units_from takes joined offset units (drop n cs)
    ≡ units_from (takes_after takes (letter_of c)) (is (letter_of c) Zwj) (offset + len_utf8 c) (put takes joined offset (letter_of c) units) (drop (n + 1) cs)
units_step cs n c offset takes joined units (lt, e) =
    at_drop_more (units_from takes joined offset units) cs n c lt
    ∙ ap (λ x. units_from takes joined offset units (x ∷ drop (n + 1) cs)) (sym e)
