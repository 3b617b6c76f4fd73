-- Steps of stretching, and how they are refused.
use Rattle.std.proofs.Common.{◌≡◌, ◌<◌, ◌≤◌, Bool, true, false, None, List, [], ◌∷◌, length, map, nat_lt, refl, ap, sym, ◌∙◌, subst, arith, if◌then◌else◌, Result, Ok, Err}
use Rattle.std.proofs.lemmas.Bool.Decides.{nat_tests}
use Rattle.std.proofs.lemmas.List.{length-reverse, length-map}
use Rattle.std.specs.Prelude.{IsErrAnd, IsErrOf}
use Rattle.shape_items.specs.Buffer.{Buffer, limit_of}
use Rattle.shape_buffer.specs.Outcome.{Outcome, Ran, Refused, step, for_memory}
use Rattle.shape_buffer.specs.declared.buffer.error.ShapeError.{ShapeError}
use Rattle.shape_buffer.specs.declared.buffer.error.ShapeError.TheVariants.{Memory, Length}
use Rattle.std.specs.List.{list_any}
use Rattle.shape_common.specs.Face.{FaceMeaning}
use Rattle.arabic_stretching.specs.Copying.{stretched_from}
use Rattle.arabic_stretching.specs.Stretching.{glyphs_from, glyph_info, is_leftward, turned, laid, laid_within, stretched_in, stretched}
use Rattle.arabic_stretching.specs.Tiles.{is_tile, spans_marked}
use Rattle.arabic_stretching.specs.declared.fitting.Glyph.{Glyph}

pub length-turned : (right_to_left : Bool) (b : Buffer) → length (turned right_to_left b).items ≡ length b.items
length-turned true b = length-reverse b.items
length-turned false b = refl

-- what follows of a length of an error that is handed on
pub past_on : {T : Type 0} (r : Result T ShapeError) (error : ShapeError) (P : Type 0) → IsErrAnd r (λ e. e ≡ error) → (error ≡ Length → P)
    → IsErrOf r Length → P
past_on (Ok x) error P is past of = absurd is
past_on (Err e) error P is past of = past (sym is ∙ (let e : Err e ≡ Err Length = of in cc))

-- a refusal is handed on: for memory alone
pub outcome_memory : (f : Buffer → Buffer) (old new : Buffer) (error : ShapeError) (r : Result (Unit {0}) ShapeError)
    → IsErrAnd r (λ e. e ≡ error) → error ≡ Memory → Outcome (step f) old new r
outcome_memory f old new error (Ok x) is memory = absurd is
outcome_memory f old new error (Err e) is memory = subst (Refused (step f ∷ []) old) (sym (is ∙ memory)) for_memory

-- more glyphs than the run may make: all stays
pub too_long : (face : FaceMeaning) (right_to_left : Bool) (b : Buffer)
    → limit_of b < length (stretched_from face right_to_left None (glyphs_from b.items b.positions)) → b ≡ laid_within face right_to_left b
too_long face right_to_left b over =
    let gs = stretched_from face right_to_left None (glyphs_from b.items b.positions) in
    let many : length (map glyph_info gs) ≡ length gs = length-map gs glyph_info in
    let test : nat_lt (limit_of b) (length (map glyph_info gs)) ≡ true = grind (arith, nat_tests, many, over) in
    ap (λ t. if t then b else spans_marked (laid gs b)) (sym test)

-- as many as it may make at most
pub laid_fits : (face : FaceMeaning) (right_to_left : Bool) (b c : Buffer) (gs : List Glyph)
    → gs ≡ stretched_from face right_to_left None (glyphs_from b.items b.positions) → length gs ≤ limit_of b → c ≡ spans_marked (laid gs b)
    → c ≡ laid_within face right_to_left b
laid_fits face right_to_left b c gs is within made =
    let many : length (map glyph_info gs) ≡ length gs = length-map gs glyph_info in
    let test : nat_lt (limit_of b) (length (map glyph_info gs)) ≡ false = grind (arith, nat_tests, many, within) in
    made ∙ ap (λ t. if t then b else spans_marked (laid gs b)) (sym test)
    ∙ ap (λ hs. if nat_lt (limit_of b) (length (map glyph_info hs)) then b else spans_marked (laid hs b)) is

-- the whole of it, by its parts
pub outcome_laid : (face : FaceMeaning) (old turned_once mid new : Buffer) (right_to_left : Bool) → list_any is_tile old.items ≡ true
    → right_to_left ≡ is_leftward old.direction → turned_once ≡ turned right_to_left old → limit_of turned_once ≡ limit_of old
    → mid ≡ laid_within face right_to_left turned_once → length mid.items ≤ limit_of turned_once → limit_of mid ≡ limit_of turned_once
    → new ≡ turned right_to_left mid → limit_of new ≡ limit_of mid → Ran (step (stretched face) ∷ []) old new
outcome_laid face old once mid new right_to_left tiles leftward first one made within two second three =
    let whole : new ≡ stretched face old =
    second ∙ ap (turned right_to_left) (made ∙ ap (laid_within face right_to_left) first)
    ∙ ap (λ r. stretched_in face r old) leftward
    ∙ ap (λ t. if t then stretched_in face (is_leftward old.direction) old else old) (sym tiles) in
    let many : length new.items ≡ length mid.items = ap (λ (b : Buffer). length b.items) second ∙ length-turned right_to_left mid in
    let counted : length (stretched face old).items ≤ limit_of old = omega (arith, ap (λ (b : Buffer). length b.items) whole, many, within, one) in
    record {
      made = whole;
      each_within = (counted, tt);
      within = omega (arith, many, within, one, two, three);
      same_limit = three ∙ two ∙ one;
    }
