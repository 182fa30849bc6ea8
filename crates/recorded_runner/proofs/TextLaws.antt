-- The text of a replay: on what it depends, and how it comes from a list of replies.
use Rattle.std.proofs.Common.{◌≡◌, ℕ, suc, ◌+◌, List, [], ◌∷◌, ◌++◌, length, get_or, refl, sym, ap, ap₂, ◌∙◌, arith}
use Rattle.recording_format.specs.declared.records.Record.{Record}
use Rattle.recording_format.specs.Connections.{tenants_of}
use Rattle.serve_config.specs.declared.tenants.Tenant.{Tenant}
use Rattle.serve_config.specs.Configuration.{Configuration}
use Rattle.wasm_meaning.specs.Programs.{Program}
use Rattle.recorded_runner.specs.Fates.{decided}
use Rattle.recorded_runner.specs.Joined.{joined_from}
use Rattle.recorded_runner.specs.ReplayText.{answers_magic, connection_text, replies_on, texts_from, replay_text}
use Rattle.recorded_runner.specs.Summaries.{summary_over, summary_of}

text_of_tenants : List Program → List Record → List Tenant → List ℕ
text_of_tenants programs records tenants =
    answers_magic ++ texts_from 0 (tenants_of records) (λ link. replies_on tenants programs link (decided tenants records))

by_tenants : (c : Configuration) (programs : List Program) (records : List Record) → replay_text c programs records ≡ text_of_tenants programs records c.tenants
unfolding replay_text text_of_tenants
by_tenants c programs records = refl

pub same_text : (one other : Configuration) (programs : List Program) (records : List Record) → one.tenants ≡ other.tenants → replay_text one programs records ≡ replay_text other programs records
same_text one other programs records same =
    by_tenants one programs records ∙ ap (λ (ts : List Tenant). text_of_tenants programs records ts) same ∙ sym (by_tenants other programs records)

pub same_summary : (one other : Configuration) (programs : List Program) (records : List Record) → one.tenants ≡ other.tenants → one.quantum ≡ other.quantum → summary_of one programs records ≡ summary_of other programs records
unfolding summary_of
same_summary one other programs records same quantum =
    ap₂ (λ (ts : List Tenant) (q : ℕ). summary_over q ts programs (decided ts records)) same quantum

-- replies that stand in a list, one for each connection, are those of the text
pub joined_texts : (link : ℕ) (owners : List ℕ) (replies : List (List ℕ)) (due : ℕ → List ℕ) → length owners ≡ length replies
    → ((k : ℕ) → get_or replies k [] ≡ due (link + k)) → joined_from link replies ≡ texts_from link owners due
joined_texts link [] [] due same each = refl
joined_texts link [] (reply ∷ replies) due same each = absurd (omega (arith, same))
joined_texts link (owner ∷ owners) [] due same each = absurd (omega (arith, same))
joined_texts link (owner ∷ owners) (reply ∷ replies) due same each =
    let here : reply ≡ due link = each 0 ∙ ap due (omega arith) in
    ap₂ (λ (r more : List ℕ). connection_text link r ++ more) here
    (joined_texts (suc link) owners replies due (omega (arith, same)) (λ k. each (suc k) ∙ ap due (omega arith)))
