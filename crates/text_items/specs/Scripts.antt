-- The scripts of a text's clusters: UAX 24, sections 5.1 and 5.2.
use Rattle.std.specs.Prelude.{ℕ, ◌||◌, not, nat_lt, Bool, List, [], ◌∷◌, length, if◌then◌else◌}
use Rattle.ucd_script.specs.Script.{script, script_eq}
use Rattle.ucd_script.specs.declared.Script.{Script}
use Rattle.ucd_script.specs.declared.Script.TheVariants.{Common, Inherited}
use Rattle.text_items.specs.Extensions.{is_listed}
use Rattle.text_items.specs.Pairs.{side_of, from_match}
use Rattle.text_items.specs.declared.clusters.Cluster.{Cluster}
use Rattle.text_items.specs.declared.pairs.Open.{Open}
use Rattle.text_items.specs.declared.pairs.Side.{Side}
use Rattle.text_items.specs.declared.pairs.Side.TheVariants.{Opens, Closes, Neither}

-- neither Common nor Inherited
abbrev pub is_explicit : Script → Bool
is_explicit s = not (script_eq s Common || script_eq s Inherited)

-- 5.2: a combining mark has the script of its base, and a base that is Common that of its mark: so the first of a cluster's
-- characters that has a script by itself gives it to the cluster
abbrev pub own_script : List ℕ → Script
own_script [] = Common
own_script (c ∷ cs) = if is_explicit (script c) then script c else own_script cs

-- what stands before the first script of a text has that script
abbrev pub first_script : List Cluster → Script
first_script [] = Common
first_script (cluster ∷ clusters) = if is_explicit cluster.script then cluster.script else first_script clusters

-- each cluster with the first script after it
abbrev pub with_next : List Cluster → List Cluster
with_next [] = []
with_next (cluster ∷ clusters) = record cluster { next = first_script clusters } ∷ with_next clusters

-- the script of the text before a place, and the brackets that are open there, the last one first
pub record Context : Type 0 where
  pub current : Script
  pub brackets : List Open

abbrev pub context_of : Script → Context
context_of s = record { current = s; brackets = [] }

-- 5.1: an opening bracket has the script of the text before it; 63 may be open, as in UAX 9, and one more is not paired
abbrev pub opened : ℕ → Context → Context
opened closing context =
    if nat_lt (length context.brackets) 63 then record context { brackets = record { closing = closing; script = context.current } ∷ context.brackets }
    else context

-- 5.1: a closing one has the script of the one that it closes; those opened after that stay unpaired. One that closes none is a
-- Common character like others: U+2019 is an apostrophe, too
abbrev pub closed_at : List Open → Context → Context
closed_at [] context = context
closed_at (entry ∷ below) context = record { current = entry.script; brackets = below }

abbrev pub closed : ℕ → Context → Context
closed closing context = closed_at (from_match closing context.brackets) context

abbrev pub paired : Side → Context → Context
paired (Opens closing) context = opened closing context
paired (Closes closing) context = closed closing context
paired Neither context = context

-- 2.9: a character that is used with several scripts has that of the text before it, if it is one of them; 5.1: one that has a script by
-- itself has that; a Common or Inherited one that of the text before it, if it isn't used with the next script alone
abbrev pub settled : Cluster → Script → Script
settled cluster current =
    if is_listed current cluster.first then current
    else if is_explicit cluster.script then cluster.script
    else if is_listed cluster.next cluster.first then cluster.next
    else current

-- one cluster further on: the script that the text then has is that of the cluster
abbrev pub stepped : Cluster → Context → Context
stepped cluster context =
    let at = record context { current = settled cluster context.current } in
    if is_explicit cluster.script then at else paired (side_of cluster.first) at
