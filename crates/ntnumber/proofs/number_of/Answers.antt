-- Not laid: known or full. Laid behind the last: known, or entered as it lies.
use Rattle.std.proofs.Common.{refl, ◌∙◌}
use Rattle.names.specs.Names.{entries_of}
use Rattle.ntnumber.specs.Lent.{list_in}
use Rattle.ntnumber.proofs.HashKept.{found_told, told-names, hashed_as, hashed_on}
use Rattle.ntnumber.proofs.Numbers.{stands-few, stands-sort, laid-listing, laid-entries, laid-after, laid-within, laid-room_start, numbered-unlaid, numbered-listed, numbered-entered}
use Rattle.ntnumber.proofs.number_of.Goals as goal

pub number_in_place-requires : goal.number_in_place-requires
number_in_place-requires c =
    let l = list_in c.args.list.now in
    let names = c.args.list.now.count in
    let into = c.requires.into in
    let few = stands-few c.args.b.now c.args.end c.args.t in
    let y = into.stands.term in
    let t = into.stands.stands in
    let v = c.lanes.ensures in
    rw (v.same_terms, v.same_ends, v.same_text, v.same_count) (record { within = into.within; stands = into.stands; listing = laid-listing l names into.listing y (few y t) _ _ _ _ c.end-from.ensures (c.in_default.ensures y t) })

pub returns-in_default-clause-numbered : goal.returns-in_default-clause-numbered
returns-in_default-clause-numbered c =
    let l = list_in c.args.list.now in
    let names = c.args.list.now.count in
    let into = c.requires.into in
    let few = stands-few c.args.b.now c.args.end c.args.t in
    let v = c.lanes.ensures in
    λ x s. rw (found_told names c.number_in_place.result) at (numbered-unlaid l names into.listing x (few x s) _ _ _ _ c.end-from.ensures (c.in_default.ensures x s) refl c.number_in_place.result (rw (v.same_terms, v.same_ends, v.same_text, v.same_count) at (c.number_in_place.ensures x s)))

pub returns-in_default-clause-hashed : goal.returns-in_default-clause-hashed
returns-in_default-clause-hashed c =
    let l = list_in c.args.list.now in
    let names = c.args.list.now.count in
    let into = c.requires.into in
    let few = stands-few c.args.b.now c.args.end c.args.t in
    let y = into.stands.term in
    let t = into.stands.stands in
    hashed_as (entries_of l names) _ _ _ _ _ (laid-entries l names into.listing y (few y t) _ _ _ _ c.end-from.ensures (c.in_default.ensures y t)) refl refl c.requires.hashed

pub slice_bounds-word-count : goal.slice_bounds-word-count
slice_bounds-word-count c =
    let l = list_in c.args.list.now in
    let names = c.args.list.now.count in
    let into = c.requires.into in
    let few = stands-few c.args.b.now c.args.end c.args.t in
    let y = into.stands.term in
    let t = into.stands.stands in
    laid-after l names into.listing y (few y t) _ _ _ _ c.end-from.ensures (c.in-Some.ensures y t) refl

pub slice_bounds-word-start : goal.slice_bounds-word-start
slice_bounds-word-start c =
    let l = list_in c.args.list.now in
    let names = c.args.list.now.count in
    let into = c.requires.into in
    let few = stands-few c.args.b.now c.args.end c.args.t in
    let y = into.stands.term in
    let t = into.stands.stands in
    laid-after l names into.listing y (few y t) _ _ _ _ c.end-from.ensures (c.in-Some.ensures y t) refl

pub slice_bounds-word-end : goal.slice_bounds-word-end
slice_bounds-word-end c =
    let l = list_in c.args.list.now in
    let names = c.args.list.now.count in
    let into = c.requires.into in
    let few = stands-few c.args.b.now c.args.end c.args.t in
    let y = into.stands.term in
    let t = into.stands.stands in
    rw c.lanes-l.ensures.same_text (laid-within l names into.listing y (few y t) _ _ _ _ c.end-from.ensures (c.in-Some.ensures y t) refl)

pub number_by_hash-requires : goal.number_by_hash-requires
number_by_hash-requires c =
    let l = list_in c.args.list.now in
    let names = c.args.list.now.count in
    let into = c.requires.into in
    let few = stands-few c.args.b.now c.args.end c.args.t in
    let y = into.stands.term in
    let t = into.stands.stands in
    let v = c.lanes-l.ensures in
    rw (v.same_terms, v.same_ends, v.same_text, v.same_count, v.same_heads, v.same_next) (laid-listing l names into.listing y (few y t) _ _ _ _ c.end-from.ensures (c.in-Some.ensures y t), hashed_as (entries_of l names) _ _ _ _ _ (laid-entries l names into.listing y (few y t) _ _ _ _ c.end-from.ensures (c.in-Some.ensures y t)) refl refl c.requires.hashed, rw v.same_text at c.hash-h.ensures.0, c.hash-h.ensures.1)

pub overflow_sub-to : goal.overflow_sub-to
overflow_sub-to c =
    let l = list_in c.args.list.now in
    let names = c.args.list.now.count in
    let into = c.requires.into in
    let few = stands-few c.args.b.now c.args.end c.args.t in
    let y = into.stands.term in
    let t = into.stands.stands in
    laid-after l names into.listing y (few y t) _ _ _ _ c.end-from.ensures (c.in-Some.ensures y t) refl

pub enter-requires : goal.enter-requires
enter-requires c =
    let l = list_in c.args.list.now in
    let names = c.args.list.now.count in
    let into = c.requires.into in
    let few = stands-few c.args.b.now c.args.end c.args.t in
    let y = into.stands.term in
    let t = into.stands.stands in
    (laid-listing l names into.listing y (few y t) _ _ _ _ c.end-from.ensures (c.in-Some.ensures y t), laid-room_start l names into.listing y (few y t) _ _ _ _ c.end-from.ensures (c.in-Some.ensures y t) refl _ refl, c.requires.hashed.heads_long, c.requires.hashed.next_long, c.hash-h.ensures.1)

pub returns-in-Ok-clause-numbered : goal.returns-in-Ok-clause-numbered
returns-in-Ok-clause-numbered c =
    let l = list_in c.args.list.now in
    let names = c.args.list.now.count in
    let into = c.requires.into in
    let few = stands-few c.args.b.now c.args.end c.args.t in
    let v = c.lanes-l.ensures in
    λ x s. numbered-listed l names into.listing x (few x s) _ _ _ _ c.end-from.ensures (c.in-Some.ensures x s) refl _ refl _ (c.sort_number-sort.ensures ∙ stands-sort c.args.b.now c.args.end c.args.t x s) _ (rw (v.same_terms, v.same_ends, v.same_text, v.same_count) at c.in-Ok.ensures) _ refl

pub returns-in-Ok-clause-hashed : goal.returns-in-Ok-clause-hashed
returns-in-Ok-clause-hashed c =
    let l = list_in c.args.list.now in
    let names = c.args.list.now.count in
    let into = c.requires.into in
    let few = stands-few c.args.b.now c.args.end c.args.t in
    let y = into.stands.term in
    let t = into.stands.stands in
    hashed_as (entries_of l names) _ _ _ _ _ (laid-entries l names into.listing y (few y t) _ _ _ _ c.end-from.ensures (c.in-Some.ensures y t)) refl refl c.requires.hashed

pub returns-in-Err-clause-numbered : goal.returns-in-Err-clause-numbered
returns-in-Err-clause-numbered c =
    let l = list_in c.args.list.now in
    let names = c.args.list.now.count in
    let into = c.requires.into in
    let few = stands-few c.args.b.now c.args.end c.args.t in
    let v = c.lanes-l.ensures in
    λ x s. numbered-entered l names into.listing x (few x s) _ _ _ _ c.end-from.ensures (c.in-Some.ensures x s) refl _ refl _ (c.sort_number-sort.ensures ∙ stands-sort c.args.b.now c.args.end c.args.t x s) _ (rw (v.same_terms, v.same_ends, v.same_text, v.same_count) at c.in-Err.ensures) _ _ c.enter.ensures.as_long c.enter.ensures.lying

pub returns-in-Err-clause-hashed : goal.returns-in-Err-clause-hashed
returns-in-Err-clause-hashed c =
    let l = list_in c.args.list.now in
    let names = c.args.list.now.count in
    let into = c.requires.into in
    let few = stands-few c.args.b.now c.args.end c.args.t in
    let y = into.stands.term in
    let t = into.stands.stands in
    let v = c.lanes-l.ensures in
    rw (told-names c.enter.new.self.count c.enter.result) at (hashed_on _ _ _ _ _ _ _ _ _ _ _ c.enter.ensures.lying c.enter.ensures.hashed (hashed_as (entries_of l names) _ _ _ _ _ (laid-entries l names into.listing y (few y t) _ _ _ _ c.end-from.ensures (c.in-Some.ensures y t)) refl refl c.requires.hashed) _ c.end-from.ensures (rw v.same_text at c.hash-h.ensures.0) c.hash-h.ensures.1)
