-- What holds of all decisions.
use Rattle.std.proofs.Common.{rules, ◌≡◌, refl, Bool, true, false, ◌&&◌, ◌||◌, not, ◌↔◌, IsTrue}
use Rattle.shape_buffer.specs.Layout.{MapMeaning, LawfulMasks}
use Rattle.shape_plan.specs.Decisions.{decided, MasksAreFeatures, PositionsByOneTable, AreLawful, lacks_kerning, apply_gpos, apply_kerx, apply_kern, has_gsub, has_gpos}
use Rattle.shape_plan.specs.Planner.{Planning, Planner, facts_of, kern_tag}
use Rattle.shape_plan.specs.Tags as tag
use Rattle.shape_plan.specs.declared.decisions.PlanFacts.{PlanFacts}

-- none of three
pub none_of : (a b c : Bool) → IsTrue (not (a || (b || c))) ↔ ((a ≡ false) × (b ≡ false) × (c ≡ false))
none_of true b c = Prim.search rules
none_of false true c = Prim.search rules
none_of false false true = Prim.search rules
none_of false false false = Prim.search rules

-- kern is applied only without kerx
pub kern_without_kerx : (lacks there kern first : Bool) → ((lacks && (not there && kern)) && ((there && first) || (lacks && there))) ≡ false
kern_without_kerx false there kern first = refl
kern_without_kerx true true kern first = refl
kern_without_kerx true false false first = refl
kern_without_kerx true false true first = refl

-- GPOS goes first
pub first_without_second : (first second : Bool) → (first && (not first && second)) ≡ false
first_without_second false second = refl
first_without_second true second = refl

pub tables-decided : (f : PlanFacts) → PositionsByOneTable (decided f)
unfolding decided
tables-decided f = record {
  fallback = none_of (apply_gpos f) (apply_kerx f) (apply_kern f);
  one_kerning = kern_without_kerx (lacks_kerning f) f.tables.kerx f.has_kerning (not (has_gsub f && has_gpos f));
  one_table = first_without_second (apply_gpos f) (apply_kerx f);
}

-- the masks are those of features: the engine guarantees that they lack the defined bits
pub masks-decided : {F S P D : Type 0} (planning : Planning F S P D) (planner : Planner F S) (map : MapMeaning) → LawfulMasks map
    → MasksAreFeatures (decided (facts_of planning planner map))
unfolding decided facts_of
masks-decided planning planner map lawful = record {
  frac = lawful.one_mask tag.frac;
  numr = lawful.one_mask tag.numr;
  dnom = lawful.one_mask tag.dnom;
  rtlm = lawful.one_mask tag.rtlm;
  kern = lawful.mask (kern_tag planner.direction);
  trak = lawful.mask tag.trak;
}

pub are_lawful-decided : {F S P D : Type 0} (planning : Planning F S P D) (planner : Planner F S) (map : MapMeaning) → LawfulMasks map
    → AreLawful (decided (facts_of planning planner map))
are_lawful-decided planning planner map lawful = record {
  masks = masks-decided planning planner map lawful;
  tables = tables-decided (facts_of planning planner map);
}
