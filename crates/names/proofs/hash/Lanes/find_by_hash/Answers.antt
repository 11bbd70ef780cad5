use mathlib.Core.Path.{ap, sym, subst, ◌∙◌}
use Prim.Native.Nat.{ℕ, ◌-◌}
use native.Mathlib.Omega.{arith}
use lib.ListN.{length}
use Rattle.std.specs.Prelude.{Option}
use Rattle.ground.proofs.Tab.{tab-length}
use Rattle.names.specs.Names.{entry_at, entries_of}
use Rattle.names.specs.Read.{lanes_read}
use Rattle.names.specs.Hashed.{hash_at, last_below}
use Rattle.names.proofs.Hashing.{Chain, chain_start, chain_on, chain_end, last-low, in_chain}
use Rattle.names.proofs.hash.Lanes.find_by_hash.Goals as goal
use Rattle.names.proofs.hash.Lanes.find_by_hash.Goals.{then-is_entry, else-is_entry}

pub bounds-self-h : goal.bounds-self-h
bounds-self-h c =
    let the-pre = c.requires in
    omega (arith, the-pre.3, the-pre.1.heads_long)

pub loop-p-init : goal.loop-p-init
loop-p-init c =
    let the-args = c.args in
    let the-pre = c.requires in
    let es = entries_of (lanes_read the-args.self) the-args.self.count in
    chain_start es the-args.sort the-args.word.now _ (c.from-p.ensures ∙ the-pre.1.heads_are the-args.h the-pre.3 ∙ ap (λ (h : ℕ). last_below es h (length es)) the-pre.2)

pub is_entry-requires : goal.is_entry-requires
is_entry-requires c =
    let the-pre = c.requires in
    let the-args = c.args in
    let the-loop = c.loop-p in
    let the-loop-test = c.loop-p-test in
    (the-pre.0, in_chain (lanes_read the-args.self) the-args.self.count the-args.sort the-args.word.now the-loop.p _ the-loop.invariant the-loop-test.true)

pub offset_bounds-self-i : goal.offset_bounds-self-i
offset_bounds-self-i c =
    let the-args = c.args in
    let the-loop = c.loop-p in
    let the-loop-test = c.loop-p-test in
    let the-pre = c.requires in
    let b = in_chain (lanes_read the-args.self) the-args.self.count the-args.sort the-args.word.now the-loop.p _ the-loop.invariant the-loop-test.true in
    omega (arith, b, the-pre.0.room, the-pre.0.few)

pub offset_bounds-self-i-in-loop-p : goal.offset_bounds-self-i-in-loop-p
offset_bounds-self-i-in-loop-p c =
    let the-args = c.args in
    let the-loop = c.loop-p in
    let the-loop-test = c.loop-p-test in
    let the-pre = c.requires in
    let b = in_chain (lanes_read the-args.self) the-args.self.count the-args.sort the-args.word.now the-loop.p _ the-loop.invariant the-loop-test.true in
    omega (arith, b, the-pre.0.room, the-pre.0.few)

pub bounds-self-i : goal.bounds-self-i
bounds-self-i c =
    let the-args = c.args in
    let the-loop = c.loop-p in
    let the-loop-test = c.loop-p-test in
    let the-pre = c.requires in
    let b = in_chain (lanes_read the-args.self) the-args.self.count the-args.sort the-args.word.now the-loop.p _ the-loop.invariant the-loop-test.true in
    omega (arith, b, the-pre.0.room)

pub bounds-self-i-in-loop-p : goal.bounds-self-i-in-loop-p
bounds-self-i-in-loop-p c =
    let the-args = c.args in
    let the-loop = c.loop-p in
    let the-loop-test = c.loop-p-test in
    let the-pre = c.requires in
    let b = in_chain (lanes_read the-args.self) the-args.self.count the-args.sort the-args.word.now the-loop.p _ the-loop.invariant the-loop-test.true in
    omega (arith, b, the-pre.0.room, the-pre.0.few, the-pre.1.next_long)

pub loop-p-smaller : goal.loop-p-smaller
loop-p-smaller c =
    let the-args = c.args in
    let the-loop = c.loop-p in
    let the-loop-test = c.loop-p-test in
    let the-pre = c.requires in
    let l = lanes_read the-args.self in
    let es = entries_of l the-args.self.count in
    let b = in_chain l the-args.self.count the-args.sort the-args.word.now the-loop.p _ the-loop.invariant the-loop-test.true in
    let n = the-pre.1.next_are (the-loop.p - 1) (rw (tab-length the-args.self.count (entry_at l)) b) in
    let k = last-low es (hash_at es (the-loop.p - 1)) (the-loop.p - 1) in
    omega (arith, n, k, the-loop-test.true)

pub loop-p-preserved : goal.loop-p-preserved
loop-p-preserved c =
    let the-args = c.args in
    let the-loop = c.loop-p in
    let the-loop-test = c.loop-p-test in
    let the-pre = c.requires in
    let the-is-entry = c.is_entry in
    let the-if1 = c.if-is_entry in
    let l = lanes_read the-args.self in
    let es = entries_of l the-args.self.count in
    let word = the-args.word.now in
    let b = in_chain l the-args.self.count the-args.sort word the-loop.p _ the-loop.invariant the-loop-test.true in
    let n = the-pre.1.next_are (the-loop.p - 1) (rw (tab-length the-args.self.count (entry_at l)) b) in
    let on = chain_on l the-args.self.count the-pre.0 (the-loop.p - 1) b the-args.sort word the-loop.p _ the-loop.found _ the-loop.invariant (omega (arith, the-loop-test.true)) the-is-entry.ensures (c.from-p-in-loop-p.ensures ∙ n) in
    elim the-if1.branch [
      | then-is_entry w ↦ subst (λ (o : Option ℕ). Chain es the-args.sort word c.from-p-in-loop-p.result o) (rw w.if-is_entry.true (sym w.found-is)) on
      | else-is_entry w ↦ subst (λ (o : Option ℕ). Chain es the-args.sort word c.from-p-in-loop-p.result o) (rw w.if-is_entry.false (sym w.found-is)) on
    ]

pub returns : goal.returns
returns c =
    let the-args = c.args in
    let the-loop = c.loop-p in
    let the-loop-test = c.loop-p-test in
    chain_end (entries_of (lanes_read the-args.self) the-args.self.count) the-args.sort the-args.word.now the-loop.p the-loop.found the-loop.invariant
    (omega (arith, the-loop-test.false))
