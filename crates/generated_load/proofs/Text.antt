-- What the text of the configuration means. The checker computes it.
use Rattle.std.proofs.Common.{◌≡◌, Ok, refl}
use Rattle.std.specs.Str.{chars, is_utf8}
use lib.Utf8.{encode}
use Rattle.std.specs.Float.Numeral.{scan_numeral}
use Rattle.json.specs.Json.{value}
use Rattle.json.specs.Lex.{lex, punctuate}
use Rattle.json.specs.Text.{content}
use Rattle.json.specs.Word.{after_number, word}
use Rattle.serde_json.specs.Read.{number_of}
use Rattle.serve_config.specs.Overview.{first_fault}
use Rattle.serve_config.specs.Reading.{configuration}
use Rattle.serve_config.specs.Walk.{route_of, tenant_of, config_of}
use Rattle.generated_load.specs.Configuration.{soak_configuration, soak_text}

pub text_is : configuration soak_text ≡ Ok soak_configuration
unfolding soak_text is_utf8 chars encode lex punctuate word after_number content value scan_numeral number_of first_fault route_of tenant_of config_of
text_is = refl
