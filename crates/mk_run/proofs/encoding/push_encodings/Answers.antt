-- One encoding after the other.
use Rattle.std.proofs.Common.{rules, ◌≡◌, ℕ, ◌+◌, ◌-◌, ◌<◌, List, [], ◌++◌, All, length, take, drop, slice_index, sym, ap, ◌∙◌, subst, arith, append-nil}
use Rattle.std.proofs.lemmas.List.{drop_all}
use Rattle.std.proofs.lemmas.Grind.{common_steps}
use Rattle.mk_field.specs.Field.{size}
use Rattle.mk_field.specs.Sharing.{encoding, encodings}
use Rattle.mk_run.proofs.Shares.{pushing-here, pushing-first, pushing-next}
use Rattle.mk_run.proofs.encoding.push_encodings.Goals as goal

pub encode-sharing-requires : goal.encode-sharing-requires
encode-sharing-requires g c =
    let l = c.loop-secret in
    let here = pushing-here _ _ _ l.secret-index _ c.args.secrets.now _ _ c.loop-secret-test.true l.invariant.0 in
    let first = pushing-first _ g.row.N _ _ _ _ _ _ c.requires.least here in
    let count : length c.split_at.result.0.now + 1 ≡ g.row.N = ap (λ (xs : List ℕ). length xs + 1) c.split_at.ensures.front ∙ first.1 in
    let elements : All (λ a. a < size g.F.Field.ID) c.split_at.result.0.now = subst (All (λ a. a < size g.F.Field.ID)) (sym c.split_at.ensures.front) first.2 in
    (search rules, (c.requires.least, (c.requires.most, (first.0, (count, elements)))))

pub unwrap-requires : goal.unwrap-requires
unwrap-requires g c =
    let l = c.loop-secret in
    let here = pushing-here _ _ _ l.secret-index _ c.args.secrets.now _ _ c.loop-secret-test.true l.invariant.0 in
    let first = pushing-first _ g.row.N _ _ _ _ _ _ c.requires.least here in
    let count : length c.encode-sharing.result.parts ≡ g.row.N = c.encode-sharing.ensures.sharing.count in
    c.extend_from_slice.ensures.succeeds (grind (arith, common_steps, first.3, count, l.invariant.1))

pub loop-secret-preserved : goal.loop-secret-preserved
loop-secret-preserved g c =
    let l = c.loop-secret in
    let here = pushing-here _ _ _ l.secret-index _ c.args.secrets.now _ _ c.loop-secret-test.true l.invariant.0 in
    let next = pushing-next _ g.row.N _ _ _ _ _ _ c.requires.least here in
    let parts : c.encode-sharing.result.parts ≡ encoding (slice_index c.args.secrets.now l.secret-index) (take (g.row.N - 1) l.rest.now) =
    c.encode-sharing.ensures.encoding ∙ ap (encoding (slice_index c.args.secrets.now l.secret-index)) c.split_at.ensures.front in
    let items : c.extend_from_slice.new.self.items ≡ l.shares.items ++ encoding (slice_index c.args.secrets.now l.secret-index) (take (g.row.N - 1) l.rest.now) =
    search (rules, parts) in
    let back : c.split_at.result.1.now ≡ drop (g.row.N - 1) l.rest.now = c.split_at.ensures.back in
    (rw (items, back) next, omega (arith, l.invariant.1, c.extend_from_slice.ensures.capacity))

pub returns-clause-encodings : goal.returns-clause-encodings
unfolding encodings
returns-clause-encodings g c =
    let l = c.loop-secret in
    let none : drop l.secret-index c.args.secrets.now ≡ [] = drop_all l.secret-index c.args.secrets.now (omega (arith, c.loop-secret-test.false)) in
    sym (append-nil l.shares.items) ∙ ap (λ (left : List ℕ). l.shares.items ++ encodings (g.row.N - 1) left l.rest.now) (sym none) ∙ l.invariant.0.all
