use Rattle.std.proofs.Common.{◌≡◌, ◌+◌, ◌-◌, ◌∷◌, [], ◌++◌, true, false, length, take, drop, set, arith, refl, ap, sym, subst, ◌∙◌}
use Rattle.std.proofs.lemmas.Grind.{common_steps}
use Rattle.std.proofs.lemmas.List.{drop_all, append-nil, take_more_set, take-take, length-take-le}
use Rattle.shape_items.specs.Delete.{hand_on, delete_from}
use Rattle.shape_items.specs.Unwritten.{StandsFor}
use Rattle.shape_items.proofs.Deletion.DeleteLemmas.{standing, kept_after, lost_after, finished, with_glyphs}
use Rattle.shape_items.proofs.Unwritten.UnwrittenLemmas.{StandsFor-none}
use Rattle.shape_items.proofs.Unwritten.GivenLemmas.{length-given}
use Rattle.shape_items.proofs.clusters.delete.delete_items.Goals as goal

pub loop-i-init : goal.loop-i-init
loop-i-init g c =
    let all : c.len-len.result - 0 ≡ length c.args.infos.now.items = grind (arith, common_steps) in
    record {
      kept_le = omega arith;
      runs_le = omega arith;
      items_len = refl;
      positions_len = c.requires.as_many;
      starts_len = refl;
      left = (
        [],
        StandsFor-none,
        λ picks tells b level.
            ap (λ n. delete_from picks n 0 (with_glyphs c.args.infos.now.items c.args.positions.now.items c.args.scratch_flags.now b)) all,
      );
    }

pub loop-i-preserved-then-not-test : goal.loop-i-preserved-then-not-test
loop-i-preserved-then-not-test g c =
    let k = c.loop-i.kept in
    let i = c.loop-i.i in
    let xs = c.loop-i.infos.items in
    let x = c.index.result.now in
    let given = c.loop-i.invariant.left.0 in
    let s = c.loop-i.invariant.left.1 in
    let slice : take k c.deref.result.now ≡ take k xs = ap (take k) c.deref.ensures.value in
    let before = subst (λ z. StandsFor z (take c.loop-i.runs c.loop-i.starts) given) (sym slice) s in
    let opened = subst (λ z. StandsFor (z ++ x ∷ []) (take c.open_run-runs.result c.open_run-runs.new.starts) (given ++ x ∷ [])) slice
    (c.open_run-runs.ensures.stands x refl given before) in
    let more : take (k + 1) (set xs k x) ≡ take k xs ++ x ∷ [] = take_more_set xs k x (omega arith) in
    let size : k ≡ length given = sym (length-given _ _ given s ∙ length-take-le k xs (omega arith)) in
    record {
      kept_le = omega arith;
      runs_le = omega (arith, c.open_run-runs.ensures.at_most, c.loop-i.invariant.runs_le);
      items_len = grind (arith, common_steps);
      positions_len = grind (arith, common_steps);
      starts_len = c.open_run-runs.ensures.as_many ∙ c.loop-i.invariant.starts_len;
      left = (
        given ++ x ∷ [],
        subst (λ z. StandsFor z (take c.open_run-runs.result c.open_run-runs.new.starts) (given ++ x ∷ [])) (sym more) opened,
        λ picks tells b level.
            let picked : picks x ≡ false =
            sym (tells x c.test.result (record { shown = _; shows = refl; says = record { met = c.test.ensures } })) ∙ c.if-not-test.true in
            sym (kept_after picks (c.len-len.result - i) (c.len-len.result - (i + 1)) k i given xs (set xs k x) c.loop-i.positions.items
            c.loop-i.scratch_flags b x c.index-then-not-test.result.now
            (omega arith) (omega arith) (omega arith) size (omega arith) (grind (arith, common_steps))
            (grind (arith, common_steps)) picked refl)
            ∙ c.loop-i.invariant.left.2 picks tells b level,
      );
    }

pub loop-i-preserved : goal.loop-i-preserved
loop-i-preserved g c =
    let k = c.loop-i.kept in
    let i = c.loop-i.i in
    let xs = c.loop-i.infos.items in
    let x = c.index.result.now in
    let ys = c.hand_on-runs.new.infos in
    let given = c.loop-i.invariant.left.0 in
    let s = c.loop-i.invariant.left.1 in
    let value : c.as_mut_slice.result.now ≡ xs = c.as_mut_slice.ensures.value in
    let written : take c.loop-i.infos.len (ys ++ drop (length ys) xs) ≡ ys = grind (arith, common_steps) in
    let handed = c.hand_on-runs.ensures.handed given
    (subst (λ z. StandsFor (take k z) (take c.loop-i.runs c.loop-i.starts) given) (sym value) s) in
    let left = handed.0 in
    let runs : length (take c.loop-i.runs c.loop-i.starts) ≡ c.loop-i.runs = length-take-le c.loop-i.runs c.loop-i.starts (omega arith) in
    let fewer : take c.hand_on-runs.result (take c.loop-i.runs c.loop-i.starts) ≡ take c.hand_on-runs.result c.loop-i.starts =
    take-take c.hand_on-runs.result c.loop-i.runs c.loop-i.starts (omega (arith, c.hand_on-runs.ensures.at_most)) in
    let long : length ys ≡ length xs = grind (arith, common_steps) in
    let stands : StandsFor (take k ys) (take c.hand_on-runs.result c.loop-i.starts) left = subst
    (λ z. StandsFor (take k ys) z left) fewer handed.1 in
    let size : k ≡ length given = sym (length-given _ _ given s ∙ length-take-le k xs (omega arith)) in
    let size' : k ≡ length left = sym (length-given _ _ left stands ∙ length-take-le k ys (omega arith)) in
    record {
      kept_le = omega arith;
      runs_le = omega (arith, c.hand_on-runs.ensures.at_most, c.loop-i.invariant.runs_le);
      items_len = ap length written ∙ long ∙ c.loop-i.invariant.items_len;
      positions_len = c.loop-i.invariant.positions_len;
      starts_len = c.loop-i.invariant.starts_len;
      left = (
        left,
        subst (λ z. StandsFor (take k z) (take c.hand_on-runs.result c.loop-i.starts) left) (sym written) stands,
        λ picks tells b level.
            let picked : picks x ≡ true =
            sym (tells x c.test.result (record { shown = _; shows = refl; says = record { met = c.test.ensures } }))
            ∙ c.if-not-test.false in
            let base = with_glyphs xs (standing k i c.loop-i.positions.items) c.loop-i.scratch_flags b in
            let goes = handed.2 base level ∙ ap (λ z. hand_on k x (drop (i + 1) z) (record base { items = given ++ drop i z })) value in
            ap (λ z. delete_from picks (c.len-len.result - (i + 1)) k
            (with_glyphs (left ++ drop (i + 1) z)
            (standing k (i + 1) c.loop-i.positions.items) c.hand_on-runs.new.scratch_flags b)) written
            ∙ sym (lost_after picks (c.len-len.result - i) (c.len-len.result - (i + 1)) k i given left xs ys c.loop-i.positions.items
            c.loop-i.scratch_flags c.hand_on-runs.new.scratch_flags b x
            (omega arith) (omega arith) (omega arith) size size' (omega arith) long (grind (arith, common_steps)) picked goes)
            ∙ c.loop-i.invariant.left.2 picks tells b level,
      );
    }

pub returns-clause-deleted : goal.returns-clause-deleted
returns-clause-deleted g c = λ picks tells b level.
    let k = c.loop-i.kept in
    let xs = c.loop-i.infos.items in
    let given = c.loop-i.invariant.left.0 in
    let s = c.loop-i.invariant.left.1 in
    let over : c.len-len.result - c.loop-i.i ≡ 0 = omega arith in
    let slice : c.as_mut_slice-2.result.now ≡ take k xs = c.as_mut_slice-2.ensures.value ∙ c.truncate.ensures.items in
    let stands = subst (λ z. StandsFor z (take c.loop-i.runs c.loop-i.starts) given) (sym slice) s in
    let wrote : c.write_runs.new.infos ≡ given = c.write_runs.ensures given stands in
    let long : length c.write_runs.new.infos ≡ length c.as_mut_slice-2.result.now = ap length wrote ∙ length-given _ _ given stands in
    let cut : take c.truncate.new.self.len (c.write_runs.new.infos ++ drop (length c.write_runs.new.infos) c.truncate.new.self.items)
    ≡ c.write_runs.new.infos = grind (arith, common_steps) in
    let items : given ++ drop c.loop-i.i xs
    ≡ take c.truncate.new.self.len (c.write_runs.new.infos ++ drop (length c.write_runs.new.infos) c.truncate.new.self.items) =
    ap (λ z. given ++ z) (drop_all c.loop-i.i xs (grind (arith, common_steps))) ∙ append-nil given ∙ sym (cut ∙ wrote) in
    let positions : standing k c.loop-i.i c.loop-i.positions.items ≡ c.truncate-2.new.self.items =
    ap (λ z. take k c.loop-i.positions.items ++ z) (drop_all c.loop-i.i c.loop-i.positions.items (grind (arith, common_steps)))
    ∙ append-nil (take k c.loop-i.positions.items) ∙ sym c.truncate-2.ensures.items in
    sym (sym (c.loop-i.invariant.left.2 picks tells b level) ∙ finished picks _ k _ _ _ _ _ b over items positions)
