-- The summary of a replay: its items, the requests that are admitted and started, and what they cost.
use Rattle.std.specs.Prelude.{ℕ, List, length, sum_by, Option, None, Some}
use Rattle.recording_format.specs.declared.records.Record.{Record}
use Rattle.serve_config.specs.declared.tenants.Tenant.{Tenant}
use Rattle.serve_config.specs.Configuration.{Configuration}
use Rattle.wasm_meaning.specs.Programs.{Program}
use Rattle.wasm_meaning.specs.Requests.{Request, prices, units}
use Rattle.wasm_meaning.specs.Turns.{turns}
use Rattle.recorded_runner.specs.Fates.{Fate, Refuses, Admits, Decided, decided}
use Rattle.recorded_runner.specs.Replies.{request_at}
use Rattle.recorded_runner.specs.declared.played.Summary.{Summary}

-- an item that is admitted counts one
abbrev pub admitted_in : Fate → ℕ
admitted_in (Refuses refusal) = 0
admitted_in (Admits entry) = 1

-- what this says of the request of an item, and nothing for a refusal
abbrev pub cost_of : (Request → ℕ) → Option Request → ℕ
cost_of cost None = 0
cost_of cost (Some request) = cost request

abbrev pub cost_in : (Request → ℕ) → List Tenant → List Program → Fate → ℕ
cost_in cost tenants programs (Refuses refusal) = 0
cost_in cost tenants programs (Admits entry) = cost_of cost (request_at tenants programs entry.route entry.body)

-- the turns of a request, each of a quantum of units
abbrev pub turns_in : (quantum : ℕ) → Request → ℕ
turns_in quantum request = turns (prices request) quantum

-- over all items
abbrev pub summary_over : (quantum : ℕ) → List Tenant → List Program → List Decided → Summary
summary_over quantum tenants programs items = record {
  requests = length items;
  admitted = sum_by (λ d. admitted_in d.fate) items;
  started = sum_by (λ d. admitted_in d.fate) items;
  turns = sum_by (λ d. cost_in (turns_in quantum) tenants programs d.fate) items;
  units = sum_by (λ d. cost_in units tenants programs d.fate) items;
}

-- of a replay. Of how the server works it speaks of the quantum alone.
unfoldable pub summary_of : Configuration → List Program → List Record → Summary
summary_of config programs records = summary_over config.quantum config.tenants programs (decided config.tenants records)
