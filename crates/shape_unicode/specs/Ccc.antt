-- The ccc that marks are ordered by: combining classes (The Unicode Standard, section 4.3), some of them changed.
use Rattle.std.specs.Prelude.{ℕ, ◌==◌, Option, unwrap_or, option_map, if◌then◌else◌}
use Rattle.std.specs.List.{find}
use Rattle.ucd_normal.specs.CanonicalCombiningClass.{canonical_combining_class as ccc}
use Rattle.shape_unicode.specs.declared.ccc.TheConstants.{MODIFIED_CCC, CCC_BY_CHARACTER}

-- the ccc that is taken in place of a combining class
abbrev pub modified_ccc : ℕ → ℕ
modified_ccc ccc = unwrap_or (option_map (λ entry. entry.1) (find (λ entry. entry.0 == ccc) MODIFIED_CCC)) ccc

-- the ccc of a character that has one of its own
abbrev pub ccc_by_character : ℕ → Option ℕ
ccc_by_character c = option_map (λ entry. entry.1) (find (λ entry. entry.0 == c) CCC_BY_CHARACTER)

-- the ccc of a character whose combining class is given; 0 stays 0
abbrev pub modified_ccc_from : ℕ → ℕ → ℕ
modified_ccc_from ccc c = if ccc == 0 then 0 else unwrap_or (ccc_by_character c) (modified_ccc ccc)

-- Canonical_Combining_Class, changed
abbrev pub modified_ccc_of : ℕ → ℕ
modified_ccc_of c = modified_ccc_from (ccc c) c
