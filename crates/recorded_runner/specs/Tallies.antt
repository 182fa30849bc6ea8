-- The replies to the first items and what they took, while the others wait.
use Rattle.std.specs.Prelude.{◌≡◌, ℕ, ◌+◌, ◌*◌, ◌≤◌, ◌^◌, List, [], ◌++◌, length, slice_index_or}
use Rattle.serve_config.specs.Configuration.{Configuration}
use Rattle.wasm_meaning.specs.Programs.{Program}
use Rattle.recorded_runner.specs.Fates.{Decided}
use Rattle.recorded_runner.specs.ReplayText.{answers_magic, replies_on, texts_from}
use Rattle.recorded_runner.specs.Summaries.{summary_over}
use Rattle.recorded_runner.specs.declared.played.Played.{Played}
use Rattle.recorded_runner.specs.declared.played.Summary.{Summary}

-- these items are done: each connection has its replies, and the summary is theirs
pub record IsTallied (config : Configuration) (programs : List Program) (done : List Decided) (replies : List (List ℕ)) (summary : Summary) : Type 0 where
  pub replies_are : (link : ℕ) → slice_index_or replies link [] ≡ replies_on config.tenants programs link done
  pub summary_is : summary ≡ summary_over config.quantum config.tenants programs done

-- each item adds one at most, and the turns and the units that a budget allows
pub record IsSmall (summary : Summary) : Type 0 where
  pub requests : summary.requests ≤ 4096
  pub admitted : summary.admitted ≤ summary.requests
  pub started : summary.started ≤ summary.requests
  pub turns : summary.turns ≤ summary.requests * (2 ^ 40 + 1)
  pub units : summary.units ≤ summary.requests * 2 ^ 40

-- these items of so many connections are written, and summed up
pub record IsWritten (config : Configuration) (programs : List Program) (connections : ℕ) (done : List Decided) (played : Played) : Type 0 where
  pub text_is
      : (owners : List ℕ) → length owners ≡ connections
      → played.text.items ≡ answers_magic ++ texts_from 0 owners (λ link. replies_on config.tenants programs link done)
  pub summary_is : played.summary ≡ summary_over config.quantum config.tenants programs done
