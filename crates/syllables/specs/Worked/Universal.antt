-- The first syllables of texts by `universal_grammar`, found by hand with its rules.
use Rattle.std.specs.Prelude.{◌≡◌, ℕ, List, [], ◌∷◌, map, replicate, refl}
use Rattle.syllables.specs.Grammar.{first_syllable}
use Rattle.syllables.specs.UniversalCategories.{O, B, N, GB, CGJ, SUB, H, HN, ZWNJ, WJ, R, VPre, VMPre, FAbv, FBlw, FPst, MAbv, MBlw, MPst, MPre}
use Rattle.syllables.specs.UniversalCategories.{CMAbv, CMBlw, VAbv, VBlw, VPst, VMAbv, VMBlw, VMPst, SMAbv, SMBlw, CS, IS, FMAbv, FMBlw, FMPst, Sk, G}
use Rattle.syllables.specs.UniversalCategories.{J, SB, SE, HVM, HM, HR, RK}
use Rattle.syllables.specs.UniversalGrammar.{universal_grammar}
use Rattle.syllables.specs.declared.scanner.Syllable.{Syllable}

abbrev first : List ℕ → Syllable
first = first_syllable universal_grammar 8

abbrev found : (kind count : ℕ) → Syllable
found kind count = record { kind = kind; count = count }

pub record WorkedUniversal : Type 0 where
  -- a base
  pub base : first (B ∷ []) ≡ found 2 1
  pub generic : first (GB ∷ []) ≡ found 2 1
  pub two_bases : first (B ∷ B ∷ []) ≡ found 2 1
  -- a standard cluster with something of each group, in the order of the rule; the order counts
  pub standard : first
      (R ∷ B ∷ CMAbv ∷ CMBlw ∷ SUB ∷ MPre ∷ MAbv ∷ MBlw ∷ MPst ∷ VPre ∷ VAbv ∷ VBlw ∷ VPst ∷ HVM ∷ VMPre ∷ VMAbv ∷ VMBlw ∷ VMPst ∷
      FAbv ∷ FBlw ∷ FPst ∷ FMAbv ∷ FMBlw ∷ ZWNJ ∷ [])
      ≡ found 2 24
  pub out_of_order : first (B ∷ VAbv ∷ VPre ∷ []) ≡ found 2 2
  pub last_modifier : first (CS ∷ GB ∷ FMPst ∷ []) ≡ found 2 3
  -- halants join the next base; one that shows counts as a vowel
  pub joined : first (B ∷ H ∷ B ∷ HVM ∷ B ∷ IS ∷ B ∷ Sk ∷ B ∷ []) ≡ found 2 9
  pub shown : first (B ∷ H ∷ []) ≡ found 2 2
  pub after_vowel : first (B ∷ VPst ∷ H ∷ []) ≡ found 2 2
  pub joined_by_sakot : first (B ∷ Sk ∷ B ∷ MBlw ∷ []) ≡ found 2 4
  -- virama-terminated: an invisible stacker or a killer that repeats
  pub stacker : first (B ∷ IS ∷ []) ≡ found 0 2
  pub killer : first (R ∷ B ∷ CMAbv ∷ RK ∷ ZWNJ ∷ []) ≡ found 0 5
  -- sakot-terminated, unless a base follows, with which the cluster is a standard one
  pub sakot : first (B ∷ VAbv ∷ Sk ∷ []) ≡ found 1 3
  pub sakot_joined : first (B ∷ VAbv ∷ Sk ∷ B ∷ VAbv ∷ []) ≡ found 2 4
  -- numbers
  pub number : first (N ∷ []) ≡ found 4 1
  pub numeral : first (N ∷ HN ∷ N ∷ ZWNJ ∷ []) ≡ found 4 4
  pub no_joiner : first (N ∷ N ∷ []) ≡ found 4 1
  pub joiner_terminated : first (N ∷ HN ∷ N ∷ HN ∷ []) ≡ found 3 4
  -- symbols: any other character, a generic base or the begin of a segment, with a tail
  pub other : first (O ∷ []) ≡ found 5 1
  pub with_vowel : first (O ∷ VAbv ∷ []) ≡ found 5 2
  pub modified : first (GB ∷ SMAbv ∷ SMAbv ∷ SMBlw ∷ ZWNJ ∷ []) ≡ found 5 5
  pub modified_below : first (GB ∷ SMBlw ∷ SMAbv ∷ []) ≡ found 5 2
  pub symbol_stacker : first (O ∷ IS ∷ []) ≡ found 5 2
  pub symbol_sakot : first (O ∷ Sk ∷ []) ≡ found 5 2
  pub segment : first (SB ∷ []) ≡ found 5 1
  -- hieroglyphs; without one the segment begins in vain
  pub hieroglyph : first (G ∷ HR ∷ HM ∷ SE ∷ SE ∷ []) ≡ found 6 5
  pub joined_hieroglyphs : first (SB ∷ SB ∷ G ∷ J ∷ SB ∷ G ∷ HM ∷ J ∷ ZWNJ ∷ []) ≡ found 6 9
  pub no_hieroglyph : first (SB ∷ SB ∷ SB ∷ []) ≡ found 5 1
  pub two_hieroglyphs : first (G ∷ G ∷ []) ≡ found 6 1
  -- broken: a tail without a base
  pub vowel : first (VAbv ∷ VMPst ∷ []) ≡ found 7 2
  pub repha : first (R ∷ []) ≡ found 7 1
  pub repha_vowel : first (R ∷ VAbv ∷ ZWNJ ∷ []) ≡ found 7 3
  pub number_joiner : first (HN ∷ N ∷ HN ∷ []) ≡ found 7 3
  pub number_tail : first (HN ∷ N ∷ []) ≡ found 7 2
  pub non_joiner : first (ZWNJ ∷ []) ≡ found 7 1
  pub stacker_alone : first (IS ∷ []) ≡ found 7 1
  -- no cluster: the last modifier alone, which is not broken, and what no rule begins with
  pub modifier_alone : first (FMPst ∷ []) ≡ found 8 1
  pub modifier_joined : first (FMPst ∷ ZWNJ ∷ []) ≡ found 7 2
  pub word_joiner : first (WJ ∷ B ∷ []) ≡ found 8 1
  pub stacker_no_base : first (CS ∷ H ∷ []) ≡ found 8 1
  pub hieroglyph_joiner : first (J ∷ G ∷ []) ≡ found 8 1
  -- CGJs stay with what is before them
  pub in_cluster : first (B ∷ CGJ ∷ CGJ ∷ VAbv ∷ CGJ ∷ []) ≡ found 2 5
  pub with_single : first (WJ ∷ CGJ ∷ B ∷ []) ≡ found 8 2
  pub joiner_first : first (CGJ ∷ B ∷ []) ≡ found 8 1
  -- what may be there any number of times: modifiers of consonants, vowels and their modifiers, finals and theirs
  pub repeated : map (λ c. first (B ∷ c ∷ c ∷ []))
      (CMAbv ∷ CMBlw ∷ VPre ∷ VAbv ∷ VBlw ∷ VPst ∷ VMPre ∷ VMAbv ∷ VMBlw ∷ VMPst ∷ FAbv ∷ FBlw ∷ FPst ∷ FMAbv ∷ FMBlw ∷ [])
      ≡ replicate 15 (found 2 3)
  -- and at most once: medials, a halant with vowels, the last modifier, ZWNJ
  pub once : map (λ c. first (B ∷ c ∷ c ∷ [])) (MPre ∷ MAbv ∷ MBlw ∷ MPst ∷ HVM ∷ FMPst ∷ ZWNJ ∷ []) ≡ replicate 7 (found 2 2)
  -- letters below the base have modifiers of their own, and sakot joins one letter after another one
  pub subjoined_modifier : first (B ∷ SUB ∷ CMAbv ∷ CMBlw ∷ []) ≡ found 2 4
  pub joined_modifier : first (B ∷ H ∷ B ∷ CMBlw ∷ []) ≡ found 2 4
  pub joined_by_sakots : first (B ∷ VAbv ∷ Sk ∷ B ∷ Sk ∷ B ∷ []) ≡ found 2 6
  -- long numbers, marks of symbols below, and modifiers of a hieroglyph, each of them once
  pub long_number : first (N ∷ HN ∷ N ∷ HN ∷ N ∷ []) ≡ found 4 5
  pub long_joiner_terminated : first (N ∷ HN ∷ N ∷ HN ∷ N ∷ HN ∷ []) ≡ found 3 6
  pub marks_below : first (O ∷ SMBlw ∷ SMBlw ∷ []) ≡ found 5 3
  pub marks_above_below : first (O ∷ SMAbv ∷ SMBlw ∷ SMBlw ∷ []) ≡ found 5 4
  pub turned_twice : first (G ∷ HR ∷ HR ∷ []) ≡ found 6 2
  pub modified_twice : first (G ∷ HM ∷ HM ∷ []) ≡ found 6 2
  pub joined_segments : first (G ∷ J ∷ SB ∷ SB ∷ G ∷ []) ≡ found 6 5

pub worked_universal : WorkedUniversal
worked_universal = record {
  base = refl;
  generic = refl;
  two_bases = refl;
  standard = refl;
  out_of_order = refl;
  last_modifier = refl;
  joined = refl;
  shown = refl;
  after_vowel = refl;
  joined_by_sakot = refl;
  stacker = refl;
  killer = refl;
  sakot = refl;
  sakot_joined = refl;
  number = refl;
  numeral = refl;
  no_joiner = refl;
  joiner_terminated = refl;
  other = refl;
  with_vowel = refl;
  modified = refl;
  modified_below = refl;
  symbol_stacker = refl;
  symbol_sakot = refl;
  segment = refl;
  hieroglyph = refl;
  joined_hieroglyphs = refl;
  no_hieroglyph = refl;
  two_hieroglyphs = refl;
  vowel = refl;
  repha = refl;
  repha_vowel = refl;
  number_joiner = refl;
  number_tail = refl;
  non_joiner = refl;
  stacker_alone = refl;
  modifier_alone = refl;
  modifier_joined = refl;
  word_joiner = refl;
  stacker_no_base = refl;
  hieroglyph_joiner = refl;
  in_cluster = refl;
  with_single = refl;
  joiner_first = refl;
  repeated = refl;
  once = refl;
  subjoined_modifier = refl;
  joined_modifier = refl;
  joined_by_sakots = refl;
  long_number = refl;
  long_joiner_terminated = refl;
  marks_below = refl;
  marks_above_below = refl;
  turned_twice = refl;
  modified_twice = refl;
  joined_segments = refl;
}
