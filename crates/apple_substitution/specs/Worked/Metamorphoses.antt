-- Chains over a text, computed by hand on tables of 16-bit words.
use Rattle.std.specs.Prelude.{◌≡◌, ℕ, List, [], ◌∷◌, ◌++◌, ◌+◌, Some, length, refl}
use Rattle.shape_buffer.specs.Walks.{items_mapped}
use Rattle.shape_font.specs.Worked.Glyphs.{words}
use Rattle.shape_items.specs.Buffer.{Buffer}
use Rattle.apple_substitution.specs.ChainRuns.{Source, chain_at, chain_run, chain_work, first_subtable, subtable_count}
use Rattle.apple_substitution.specs.ChainRuns.{subtable_work, subtables_run}
use Rattle.apple_substitution.specs.Chains.{chain_flags}
use Rattle.apple_substitution.specs.Drives.{entered, gone_on, step}
use Rattle.apple_substitution.specs.FeatureRanges.{Request}
use Rattle.apple_substitution.specs.Insertion.{current_done, inserted_beside}
use Rattle.apple_substitution.specs.Metamorphosis.{chains_run, metamorphosed}
use Rattle.apple_substitution.specs.Noncontextual.{all_substituted_by, substituted_by}
use Rattle.apple_substitution.specs.Subtables.{acted, acted_in_order, ran}
use Rattle.apple_substitution.specs.Worked.Chaining.{feature, silent}
use Rattle.apple_substitution.specs.Worked.Driving.{glyphs_of, masks_of, text}
use Rattle.apple_substitution.specs.Worked.Running.{both, insertions, replaces}

-- ---- tables: flag 1 has a subtable on that has 50 in place of 5 and 60 in place of 6, and one that has 70 in place of 50

abbrev fifty : List ℕ
fifty = replaces 4 1

abbrev seventy : List ℕ
seventy = words (0 ∷ 20 ∷ 0 ∷ 4 ∷ 0 ∷ 1 ∷ 8 ∷ 50 ∷ 1 ∷ 70 ∷ [])

-- a chain that has flags by itself, and that says that it is longer by so much
abbrev chain_of : ℕ → ℕ → ℕ → List ℕ → List ℕ
chain_of flags more count subtables =
    words (0 ∷ flags ∷ 0 ∷ (16 + length subtables + more) ∷ 0 ∷ 0 ∷ 0 ∷ count ∷ []) ++ subtables

-- a chain that has flag 1 by type 1 with setting 1, after two bytes
abbrev asked : List ℕ
asked = 0 ∷ 0 ∷ (words (0 ∷ 0 ∷ 0 ∷ 50 ∷ 0 ∷ 1 ∷ 0 ∷ 1 ∷ 1 ∷ 1 ∷ 0 ∷ 1 ∷ 0xFFFF ∷ 0xFFFF ∷ []) ++ fifty)

abbrev table_of : ℕ → ℕ → List ℕ → List ℕ
table_of version count chains = words (version ∷ 0 ∷ 0 ∷ count ∷ []) ++ chains

-- ---- features that are asked for

abbrev none : List Request
none = record { last = 9; features = [] } ∷ []

-- in cluster 0
abbrev in_zero : List Request
in_zero = record { last = 0; features = feature 1 1 ∷ [] } ∷ none

abbrev source : List ℕ → List Request → Source
source table requests = record { morx = table; gdef = []; glyphs = 100; requests = requests; languages = silent }

-- ---- the subtables of a chain

abbrev chain : List ℕ → List Request → ℕ → Buffer
chain table requests left = chain_run (source (0 ∷ 0 ∷ table) requests) 2 (text both left)

pub record WorkedSubtables : Type 0 where
  pub in_order : glyphs_of (chain (chain_of 1 0 2 (fifty ++ seventy)) none 200) ≡ 70 ∷ 60 ∷ []
  pub in_other_order : glyphs_of (chain (chain_of 1 0 2 (seventy ++ fifty)) none 200) ≡ 50 ∷ 60 ∷ []
  pub as_many_as_said : glyphs_of (chain (chain_of 1 0 1 (fifty ++ seventy)) none 200) ≡ 50 ∷ 60 ∷ []
  pub off : glyphs_of (chain (chain_of 2 0 2 (fifty ++ seventy)) none 200) ≡ 5 ∷ 6 ∷ []
  pub in_a_range : glyphs_of (chain_run (source asked in_zero) 2 (text both 200)) ≡ 50 ∷ 6 ∷ []
  pub not_asked : glyphs_of (chain_run (source asked none) 2 (text both 200)) ≡ 5 ∷ 6 ∷ []
  pub from_a_place : glyphs_of (subtables_run (chain_at (source asked in_zero) 2) 30 1 (text both 200)) ≡ 50 ∷ 6 ∷ []

pub worked_subtables : WorkedSubtables
unfolding acted acted_in_order all_substituted_by chain_flags chain_run items_mapped ran substituted_by
worked_subtables = record {
  in_order = refl;
  in_other_order = refl;
  as_many_as_said = refl;
  off = refl;
  in_a_range = refl;
  not_asked = refl;
  from_a_place = refl;
}

pub record WorkedChainCosts : Type 0 where
  -- sixteen for the chain, and for its entry a look at each range, and one at the feature
  pub of_a_chain : chain_work (source asked in_zero) 2 ≡ 19
  -- sixteen, and a look at each range
  pub of_a_subtable : subtable_work (chain_at (source asked in_zero) 2) ≡ 18
  pub place : first_subtable asked 2 ≡ 30
  pub count : subtable_count asked 2 ≡ 1
  -- a look at the range, and a walk over two glyphs: 17 and 34
  pub charged : (chain (chain_of 1 0 2 (fifty ++ seventy)) none 200).max_ops ≡ 98
  pub off : (chain (chain_of 2 0 2 (fifty ++ seventy)) none 200).max_ops ≡ 166
  pub one_alone : glyphs_of (chain (chain_of 1 0 2 (fifty ++ seventy)) none 67) ≡ 50 ∷ 60 ∷ []
  pub some_left : (chain (chain_of 1 0 2 (fifty ++ seventy)) none 67).max_ops ≡ 16

pub worked_chain_costs : WorkedChainCosts
unfolding acted acted_in_order all_substituted_by chain_flags chain_run items_mapped ran substituted_by
worked_chain_costs = record {
  of_a_chain = refl;
  of_a_subtable = refl;
  place = refl;
  count = refl;
  charged = refl;
  off = refl;
  one_alone = refl;
  some_left = refl;
}

-- ---- chains

abbrev run : ℕ → ℕ → List ℕ → ℕ → Buffer
run version count chains left = metamorphosed (source (table_of version count chains) none) (text both left)

abbrev two : List ℕ
two = chain_of 1 0 1 fifty ++ chain_of 1 0 1 seventy

pub record WorkedChains : Type 0 where
  pub in_order : glyphs_of (run 2 2 two 200) ≡ 70 ∷ 60 ∷ []
  pub as_many_as_said : glyphs_of (run 2 1 two 200) ≡ 50 ∷ 60 ∷ []
  pub first_alone : glyphs_of (chains_run (source (table_of 0 2 two) none) 1 (text both 200)) ≡ 50 ∷ 60 ∷ []
  pub version_0 : glyphs_of (run 0 2 two 200) ≡ 5 ∷ 6 ∷ []
  -- a chain that is off is passed
  pub off : glyphs_of (run 3 2 (chain_of 2 0 1 fifty ++ chain_of 1 0 1 fifty) 200) ≡ 50 ∷ 60 ∷ []
  pub last_too_long : glyphs_of (run 2 2 (chain_of 1 0 1 fifty ++ chain_of 1 1 1 seventy) 200) ≡ 50 ∷ 60 ∷ []
  -- what follows a chain that is too long for the table doesn't run
  pub first_too_long : glyphs_of (run 2 2 (chain_of 1 99 1 fifty ++ chain_of 1 0 1 fifty) 200) ≡ 5 ∷ 6 ∷ []

pub worked_chains : WorkedChains
unfolding acted acted_in_order all_substituted_by chain_flags chain_run items_mapped metamorphosed ran substituted_by
worked_chains = record {
  in_order = refl;
  as_many_as_said = refl;
  first_alone = refl;
  version_0 = refl;
  off = refl;
  last_too_long = refl;
  first_too_long = refl;
}

-- two glyphs are inserted, and two were the most
abbrev grown : Buffer
grown = metamorphosed (source (table_of 2 2 (chain_of 1 0 1 insertions ++ chain_of 1 0 1 fifty)) none)
    (record (text both 400) { length_limit = Some 2 })

pub record WorkedLimits : Type 0 where
  pub past_the_limit : glyphs_of grown ≡ 5 ∷ 80 ∷ 81 ∷ 6 ∷ []
  -- 16 for a chain, 17 for its subtable, and 34 for the walk
  pub suffices : glyphs_of (run 2 2 two 134) ≡ 70 ∷ 60 ∷ []
  pub nothing_left : (run 2 2 two 134).max_ops ≡ 0
  pub too_little_for_a_walk : glyphs_of (run 2 2 two 133) ≡ 50 ∷ 60 ∷ []
  pub too_little_for_a_chain : (run 2 2 two 82).max_ops ≡ 15

pub worked_limits : WorkedLimits
unfolding acted acted_in_order all_substituted_by chain_flags chain_run current_done entered gone_on inserted_beside items_mapped
    metamorphosed ran step substituted_by
worked_limits = record {
  past_the_limit = refl;
  suffices = refl;
  nothing_left = refl;
  too_little_for_a_walk = refl;
  too_little_for_a_chain = refl;
}

-- flag 0x40 of a buffer asks for it
abbrev joined : ℕ → Buffer
joined version = metamorphosed (source (table_of version 0 []) none) (record (text both 0) { flags = record { 0 = 0x40 } })

pub record WorkedConcat : Type 0 where
  pub all : masks_of (joined 2) ≡ 2 ∷ 2 ∷ []
  pub version_0 : masks_of (joined 0) ≡ 0 ∷ 0 ∷ []

pub worked_concat : WorkedConcat
unfolding metamorphosed
worked_concat = record { all = refl; version_0 = refl }
