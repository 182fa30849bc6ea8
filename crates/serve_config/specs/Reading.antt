-- The configuration that bytes are, or the refusal that comes first.
use Rattle.std.specs.Prelude.{ℕ, List, length, nat_lt, Option, None, Result, Err, if◌then◌else◌}
use Rattle.std.specs.Str.{is_utf8}
use Rattle.serde_json.specs.Data.{Data}
use Rattle.serde_json.specs.Read.{read}
use Rattle.serve_config.specs.declared.refusals.Refusal.{Refusal}
use Rattle.serve_config.specs.declared.refusals.Refusal.TheVariants.{NotJson, OutOfRange}
use Rattle.serve_config.specs.Steps.{go_on, or_refuse}
use Rattle.serve_config.specs.Configuration.{Configuration}
use Rattle.serve_config.specs.Walk.{config_of}

-- what the bytes mean as JSON, as `serde_json` reads it
abbrev pub json_of : List ℕ → Result Data Refusal
json_of bytes = or_refuse NotJson (if is_utf8 bytes then read bytes else None)

-- a file above 1 MiB is not looked into
abbrev pub configuration : List ℕ → Result Configuration Refusal
configuration bytes = if nat_lt 1048576 (length bytes) then Err OutOfRange else go_on (json_of bytes) config_of
