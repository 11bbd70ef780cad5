-- The rows that begin with two terms stand together: where the first place has none, there is none.
use Rattle.std.proofs.Common.{ℕ, arith}
use Rattle.walks.proofs.Neighbours.{none_before, all_partners}
use Rattle.rounds.proofs.has_row.Goals as goal

pub returns : goal.returns
returns c =
    let r = c.rows-rows.ensures in
    let placed = rw (r.same_subj, r.same_pred, r.same_obj, r.same_count, c.key_of.ensures) at c.find.ensures in
    let begins = rw (r.same_subj, r.same_pred, r.same_count) at c.begins.ensures in
    record {
      none = λ e z h. all_partners _ _ _ c.requires _ _ _ (omega arith) placed _ (omega arith) (begins.missing e) (λ (o a : ℕ). ⊥)
          (λ k q es ep. none_before _ _ _ c.requires _ _ _ (omega arith) placed k q es ep) z h;
    }
