-- What is taken is what the grammar has there.
use Rattle.std.proofs.Common.{ℕ, ◌<◌, List, length}
use Rattle.wasm_ops.specs.NameInput.{ReadsText, RefusesName}
use Rattle.wasm_ops.proofs.Answers.{if_ok_seen, if_err_seen, on_ok_seen, err_seen}
use Rattle.wasm_ops.proofs.NameLaws.{text_taken}
use Rattle.wasm_ops.proofs.cursors.Cursor.text.Goals as goal

pub returns-clause-found : goal.returns-clause-found
returns-clause-found c =
    let before = c.args.self.now in
    let after = c.take_text.new.self in
    if_ok_seen {B = List ℕ} c.take_text.result (λ text. text.now) (λ text. ReadsText before text after) (text_taken _ before after c.take_text.ensures.value).found

pub returns-clause-shorter : goal.returns-clause-shorter
returns-clause-shorter c =
    let before = c.args.self.now in
    let after = c.take_text.new.self in
    on_ok_seen {B = List ℕ} c.take_text.result (λ text. text.now) (length after.left < length before.left) (text_taken _ before after c.take_text.ensures.value).shorter

pub returns-clause-only : goal.returns-clause-only
returns-clause-only c = (text_taken _ c.args.self.now c.take_text.new.self c.take_text.ensures.value).only

pub returns-clause-refused : goal.returns-clause-refused
returns-clause-refused c =
    let before = c.args.self.now in
    let after = c.take_text.new.self in
    if_err_seen {B = List ℕ} c.take_text.result (λ text. text.now) (RefusesName before) (text_taken _ before after c.take_text.ensures.value).refused

pub returns-clause-only_refused : goal.returns-clause-only_refused
returns-clause-only_refused c = λ fault refuses.
    let before = c.args.self.now in
    let after = c.take_text.new.self in
    err_seen {B = List ℕ} c.take_text.result (λ text. text.now) fault ((text_taken _ before after c.take_text.ensures.value).only_refused fault refuses)
