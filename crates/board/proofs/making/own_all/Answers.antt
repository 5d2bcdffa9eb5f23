use Rattle.std.proofs.Common.{◌≡◌, ℕ, ◌+◌, suc, List, [], ◌∷◌, ◌++◌, length, length-append, append_assoc, arith, sym, ap, subst, ◌∙◌, refl}
use Rattle.std.specs.Vec.Iter.{into_iter_items}
use Rattle.chronicle.specs.History.{ShareSeen}
use Rattle.journal_defs.specs.declared.commit.Commit.{Commit}
use Rattle.journal_defs.specs.Journal.{made}
use Rattle.board.specs.declared.own.Own.{Own}
use Rattle.board.specs.Supplied.{AreOwn}
use Rattle.board.proofs.Together.{own_snoc}
use Rattle.board.proofs.making.own_all.Goals as goal

pub loop-share-preserved : goal.loop-share-preserved
loop-share-preserved c =
    let i = c.loop-share.invariant in
    let J = c.args.journal.now in
    let done = i.0.0 in
    let s = c.in-Some.share in
    let next = into_iter_items c.next.new.self in
    let owns = c.in-Ok.ensures.items in
    let rest : length (into_iter_items c.loop-share.shares) ≡ suc (length next) = ap (λ (l : List (ShareSeen Commit)). length l) c.in-Some.ensures.items in
    let owned : length c.push-pushed.new.self.items ≡ length c.loop-share.owns.items + 1 = ap (λ (l : List Own). length l) owns ∙ length-append c.loop-share.owns.items (_ ∷ []) in
    let count : c.loop-share.caller + 1 ≡ 1 + length c.loop-share.owns.items = omega (arith, i.1) in (
      (
        done ++ s ∷ [],
        i.0.1 ∙ (ap (λ (l : List (ShareSeen Commit)). done ++ l) c.in-Some.ensures.items ∙ sym (append_assoc done (s ∷ []) next)),
        subst (AreOwn J 1 (done ++ s ∷ [])) (sym owns) (own_snoc J 1 done c.loop-share.owns.items s _ i.0.2 (record {
          share_is = refl;
          caller_is = count;
          made_is = c.made_by-made.ensures ∙ ap (λ (n : ℕ). made n J) count;
          empty = c.in_ok-hands.ensures.items;
          room = omega (arith, c.in_ok-hands.ensures.capacity);
        })),
      ),
      omega (arith, owned, i.1),
      omega (arith, rest, i.2),
      omega (arith, rest, owned, i.3, c.in-Ok.ensures.capacity),
    )
