use Rattle.std.proofs.Common.{◌≡◌, ℕ, true, List, [], ◌∷◌, ◌++◌, append_assoc, sym, ap, subst, ◌∙◌}
use Rattle.std.specs.List.{AllByRecursion}
use Rattle.index_sets.specs.Indices.{contains}
use Rattle.chronicle.specs.History.{ShareSeen}
use Rattle.journal_defs.specs.declared.commit.Commit.{Commit}
use Rattle.board.specs.declared.own.Own.{Own}
use Rattle.board.proofs.Told.{sees_whole, told_one, owns_last, still_owns, all_last, told_more}
use Rattle.board.proofs.ending.tell_all.Goals as goal

pub split_parts-whole-requires-clause-owns : goal.split_parts-whole-requires-clause-owns
split_parts-whole-requires-clause-owns c =
    let i = c.loop-own.invariant in
    subst (λ (p : ℕ). contains c.join_parts.new.into.parts p ≡ true) (sym c.requires.place)
    (owns_last c.args.chronicle.now c.in-Some.own.share c.loop-own.whole c.join_parts.new.into i.4 c.join_parts.ensures.both)

pub loop-own-preserved : goal.loop-own-preserved
loop-own-preserved c =
    let i = c.loop-own.invariant in
    let of = c.args.chronicle.now in
    let J = c.args.whole.seen in
    let o = c.in-Some.own in
    let now = c.join_parts.new.into in
    let next = c.pop.new.self.items in
    let done = i.0.0 in
    let left = c.in-Some.ensures.items in
    let cut = c.split_parts-whole.ensures.right in
    let P : Own → Type 0 = λ x. x.share.of ≡ of in
    let is : c.args.owns.items ≡ next ++ o ∷ done = i.0.1 ∙ (ap (λ (l : List Own). l ++ done) left ∙ append_assoc next (o ∷ []) done) in
    let theirs : P o = all_last P next o done (subst (AllByRecursion P) is c.requires.of.1) in (
      told_more J c.args.owns.items c.loop-own.owns.items next done o i.0.1 left i.0.2
          (told_one of J o c.loop-own.whole now i.1 i.4 i.3 c.join_parts.ensures.both c.join_parts.ensures.into c.join_parts.ensures.from c.join_parts.ensures.valid),
      ap (λ (s : ShareSeen Commit). s.of) cut ∙ (ap (λ (s : ShareSeen Commit). s.of) c.join_parts.ensures.both ∙ theirs),
      ap (λ (s : ShareSeen Commit). s.caller) cut,
      ap (λ (s : ShareSeen Commit). s.seen) cut ∙ sees_whole of J now.seen c.loop-own.whole i.1 i.4 i.3 c.join_parts.ensures.from,
      still_owns of now c.split_parts-whole.result c.args.place c.requires.place cut,
    )
