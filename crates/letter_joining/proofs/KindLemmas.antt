-- The table of kinds agrees with the database: a test computed over both.
use Rattle.std.proofs.Common.{◌≡◌, ℕ, zero, suc, ◌+◌, ◌<◌, Bool, true, ◌&&◌, ◌==◌, List, [], ◌∷◌, length, Option, Some, None, slice_index_or, refl, sym, ap, ◌∙◌, eqb-true, arith}
use Rattle.std.proofs.lemmas.Bool.{and_parts}
use Rattle.ucd_table.proofs.Stepped.{Stepped}
use Rattle.ucd_table.proofs.Facts.{Stepped-below, tree_value, tree_of, tree_value-tree_of}
use Rattle.ucd_table.proofs.Computing.{tables}
use Rattle.ucd_bidi.specs.JoiningType.{joining_type, joining_type_number}
use Rattle.ucd_bidi.specs.JoiningGroup.{joining_group}
use Rattle.ucd_bidi.specs.declared.JoiningType.{JoiningType}
use Rattle.ucd_bidi.specs.declared.JoiningType.TheVariants as type
use Rattle.ucd_bidi.specs.declared.JoiningGroup.{JoiningGroup}
use Rattle.ucd_bidi.proofs.JoiningTypeLemmas.{joining_type_stepped}
use Rattle.ucd_bidi.proofs.JoiningGroupLemmas.{joining_group_stepped}
use Rattle.letter_joining.specs.Joining.{kind_by, kind_of}
use Rattle.letter_joining.specs.declared.joining.Kind.{Kind}
use Rattle.letter_joining.specs.declared.joining.Kind.TheVariants as kind
use Rattle.letter_joining.specs.declared.joining.kinds.TheConstants.{KINDS}

-- the numbers tell two kinds apart
abbrev number : Option Kind → ℕ
number None = 0
number (Some kind.Apart) = 1
number (Some kind.Left) = 2
number (Some kind.Right) = 3
number (Some kind.Dual) = 4
number (Some kind.Alaph) = 5
number (Some kind.DalathRish) = 6

abbrev numbered : ℕ → Option Kind
numbered n = slice_index_or
    (None ∷ Some kind.Apart ∷ Some kind.Left ∷ Some kind.Right ∷ Some kind.Dual ∷ Some kind.Alaph ∷ Some kind.DalathRish ∷ []) n None

numbered-number : (k : Option Kind) → numbered (number k) ≡ k
numbered-number None = refl
numbered-number (Some kind.Apart) = refl
numbered-number (Some kind.Left) = refl
numbered-number (Some kind.Right) = refl
numbered-number (Some kind.Dual) = refl
numbered-number (Some kind.Alaph) = refl
numbered-number (Some kind.DalathRish) = refl

number-same : (k l : Option Kind) → (number k == number l) ≡ true → k ≡ l
number-same k l same = sym (numbered-number k) ∙ ap numbered (eqb-true _ _ same) ∙ numbered-number l

-- the properties that a kind is made of
abbrev Properties : Type 0
Properties = (ℕ → JoiningType) × (ℕ → JoiningGroup)

abbrev kinds_by : Properties → ℕ → Option Kind
kinds_by p c = kind_by (p.0 c) (p.1 c)

abbrev by_rows : Properties
by_rows = (joining_type, joining_group)

abbrev by_tree : {V : Type 0} (f : ℕ → V) → Stepped f → ℕ → V
by_tree f s = tree_value s.default (tree_of f s)

unfoldable by_trees : Properties
unfolding tables joining_type_stepped joining_group_stepped
by_trees = (by_tree joining_type joining_type_stepped, by_tree joining_group joining_group_stepped)

same_properties : by_rows ≡ by_trees
unfolding by_trees
same_properties = λ i. (tree_value-tree_of joining_type joining_type_stepped i, tree_value-tree_of joining_group joining_group_stepped i)

-- each entry is the kind of its character, the first one that of c
unfoldable agree : Properties → ℕ → List (Option Kind) → Bool
agree p c [] = true
agree p c (k ∷ ks) = (number k == number (kinds_by p c)) && agree p (suc c) ks

agree-at : (p : Properties) (c : ℕ) (ks : List (Option Kind)) (i : ℕ) → agree p c ks ≡ true → i < length ks
    → slice_index_or ks i None ≡ kinds_by p (c + i)
unfolding agree
agree-at p c [] i agreed within = absurd (omega (arith, within))
agree-at p c (k ∷ ks) zero agreed within =
    let both = and_parts (number k == number (kinds_by p c)) (agree p (suc c) ks) agreed in
    let here : c ≡ c + zero = omega arith in
    number-same k (kinds_by p c) both.0 ∙ ap (kinds_by p) here
agree-at p c (k ∷ ks) (suc i) agreed within =
    let both = and_parts (number k == number (kinds_by p c)) (agree p (suc c) ks) agreed in
    let next : suc c + i ≡ c + suc i = omega arith in
    agree-at p (suc c) ks i both.1 (omega (arith, within)) ∙ ap (kinds_by p) next

table_ok : agree by_rows 0x600 KINDS ≡ true
unfolding by_trees agree
table_ok = ap (λ p. agree p 0x600 KINDS) same_properties

pub listed : (i : ℕ) → i < 384 → slice_index_or KINDS i None ≡ kind_of (0x600 + i)
listed i within = agree-at by_rows 0x600 KINDS i table_ok within

-- before U+00AD each joins to neither side
types_ok : (c : ℕ) → c < 0xAD → (joining_type_number (joining_type c) == 5) ≡ true
unfolding tables joining_type_stepped
types_ok = Stepped-below joining_type joining_type_stepped (λ c t. joining_type_number t == 5) 0xAD refl

apart_by : (t : JoiningType) (g : JoiningGroup) → (joining_type_number t == 5) ≡ true → kind_by t g ≡ Some kind.Apart
apart_by t g same = elim t as (λ t. (joining_type_number t == 5) ≡ true → kind_by t g ≡ Some kind.Apart) [
  | type.JoinCausing ↦ λ e. cc
  | type.DualJoining ↦ λ e. cc
  | type.LeftJoining ↦ λ e. cc
  | type.RightJoining ↦ λ e. cc
  | type.Transparent ↦ λ e. cc
  | type.NonJoining ↦ λ e. refl
] same

pub early : (c : ℕ) → c < 0xAD → kind_of c ≡ Some kind.Apart
early c before = apart_by (joining_type c) (joining_group c) (types_ok c before)
