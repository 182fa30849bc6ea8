-- A head that was found ends among the bytes taken; without one, all were taken, or as many as a head may have.
use Rattle.std.proofs.Common.{◌<◌, ◌≤◌, ◌+◌, length, arith}
use Rattle.http_front.proofs.FrontFacts.{found_after, found_within, found_opens, last_taken, waits}
use Rattle.http_front.proofs.front.read.Goals as goal

pub overflow_sub-length : goal.overflow_sub-length
overflow_sub-length c =
    let found = rw c.in-Found.is at c.in_ok-search.ensures in
    let after : length c.args.held.bytes.items < c.in-Found.length =
    found_after c.args.held.bytes.items c.split_at-parts.result.0.now _ c.in-Found.length c.args.held.no_head found in
    omega arith

pub split_at-split-requires : goal.split_at-split-requires
split_at-split-requires c =
    let found = rw c.in-Found.is at c.in_ok-search.ensures in
    let within : c.in-Found.length ≤ length c.args.held.bytes.items + length c.split_at-parts.result.0.now =
    found_within c.args.held.bytes.items c.split_at-parts.result.0.now _ c.in-Found.length found in
    omega arith

pub returns-in_ok-step-in-Found-clause-goes : goal.returns-in_ok-step-in-Found-clause-goes
returns-in_ok-step-in-Found-clause-goes c =
    let found = rw c.in-Found.is at c.in_ok-search.ensures in
    found_opens c.args.held.bytes.items c.split_at-parts.result.0.now c.split_at-parts.result.1.now c.args.rest.now
    c.split_at-split.result.0.now c.split_at-split.result.1.now _ c.in-Found.length _ _ _
    c.args.held.no_head found c.split_at-parts.ensures.by_index.0 c.split_at-split.ensures.by_index.0 (omega arith)
    c.in_ok-step-in-Found.ensures.goes

pub returns-in_ok-step-in-Found-clause-taken : goal.returns-in_ok-step-in-Found-clause-taken
returns-in_ok-step-in-Found-clause-taken c =
    let found = rw c.in-Found.is at c.in_ok-search.ensures in
    let after : length c.args.held.bytes.items < c.in-Found.length =
    found_after c.args.held.bytes.items c.split_at-parts.result.0.now _ c.in-Found.length c.args.held.no_head found in
    omega (arith, c.split_at-split.ensures.back_len, c.in_ok-step-in-Found.ensures.taken)

pub returns-in-Missing-clause-goes : goal.returns-in-Missing-clause-goes
returns-in-Missing-clause-goes c =
    let missing = rw c.in-Missing.is at c.in_ok-search.ensures in
    waits c.args.held.bytes.items c.split_at-parts.result.0.now c.split_at-parts.result.1.now c.args.rest.now c.in-Missing.bytes.items _ _ _
    missing.0 missing.1 c.split_at-parts.ensures.by_index.0
    (last_taken c.args.held.bytes.items c.split_at-parts.result.0.now c.split_at-parts.result.1.now c.args.rest.now c.in-Missing.bytes.items
    c.len-before.result c.lesser.result (omega arith) (omega arith) c.lesser.ensures.one (omega arith) missing.1 c.split_at-parts.ensures.by_index.0)
    c.wait.ensures
