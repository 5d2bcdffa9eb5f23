use Rattle.std.proofs.Common.{◌≡◌, ◌<◌, ◌≤◌, ◌∙◌, ℕ, List, length, get_or, sym, ap, subst}
use Rattle.std.specs.List.{slice_index_or}
use Rattle.star.specs.Stars.{entry}
use Rattle.seats.specs.Seats.{ground_of}
use Rattle.search_worker.proofs.Further.{further_own, further_on}
use Rattle.search_worker.proofs.Gathered.{names_of, name_at, first_at, next_gathered, all_at, look_orderly, one_look}
use Rattle.search_worker.proofs.looking.gather.Goals as goal

pub loop-q-init : goal.loop-q-init
loop-q-init c = record {
  of = c.requires.of;
  further = further_own c.args.pass.now;
  valid = c.caller-caller.ensures.valid;
  gathering = first_at c.args.board.now c.args.pass.now c.args.look c.add.new.region c.requires.of c.caller-caller.ensures.valid c.requires.vertex c.requires.shown
      (one_look c.args.look c.make-region.result c.add.new.region c.make-region.ensures c.add.ensures.added);
}

pub look_around-requires-clause-vertex : goal.look_around-requires-clause-vertex
look_around-requires-clause-vertex c =
    let g = ground_of c.args.board.now in let look = c.args.look in let k = c.loop-q.q-index in
    let same : c.as_slice-q-items.result.now ≡ names_of look.star.list = c.as_slice-q-items.ensures.value ∙ c.names_around-names.ensures in
    let inside : k < length (names_of look.star.list) = subst (λ (l : List ℕ). k < length l) same c.loop-q-test.true in
    let there = name_at look.star.list k 0 inside in
    let within : (entry look.star.list k).0 < length g.points = (look_orderly g c.args.pass.now.seen look c.requires.shown).within k there.0 in
    subst (λ (x : ℕ). x < length g.points) (sym (ap (λ (l : List ℕ). get_or l k 0) same ∙ there.1)) within

pub loop-q-preserved : goal.loop-q-preserved
loop-q-preserved c =
    let g = ground_of c.args.board.now in let look = c.args.look in let k = c.loop-q.q-index in
    let same : c.as_slice-q-items.result.now ≡ names_of look.star.list = c.as_slice-q-items.ensures.value ∙ c.names_around-names.ensures in
    let inside : k < length (names_of look.star.list) = subst (λ (l : List ℕ). k < length l) same c.loop-q-test.true in
    let q = slice_index_or c.as_slice-q-items.result.now k 0 in
    let is : q ≡ get_or (names_of look.star.list) k 0 = ap (λ (l : List ℕ). get_or l k 0) same in
    let v = c.loop-q.invariant in let e = c.in_ok-look_around.ensures in record {
      of = e.further.of ∙ v.of;
      further = further_on c.args.pass.now c.loop-q.pass c.look_around.new.pass v.further e.further;
      valid = e.valid;
      gathering = next_gathered g c.args.pass.now c.loop-q.pass c.look_around.new.pass look k q 0 c.loop-q.region c.look_around.new.region
          (look_orderly g c.args.pass.now.seen look c.requires.shown) inside is v.gathering e.gained;
    }

pub returns-clause-gathered : goal.returns-clause-gathered
returns-clause-gathered c =
    let look = c.args.look in let k = c.loop-q.q-index in
    let same : c.as_slice-q-items.result.now ≡ names_of look.star.list = c.as_slice-q-items.ensures.value ∙ c.names_around-names.ensures in
    let over : length (names_of look.star.list) ≤ k = subst (λ (l : List ℕ). length l ≤ k) same c.loop-q-test.false in
    all_at c.args.board.now c.args.pass.now c.loop-q.pass look k c.loop-q.region c.requires.of c.caller-caller.ensures.valid c.requires.vertex c.requires.shown over c.loop-q.invariant.gathering
