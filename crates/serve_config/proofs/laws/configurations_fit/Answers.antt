use Rattle.serve_config.proofs.Accepting.{accepted, faultless}
use Rattle.serve_config.proofs.laws.configurations_fit.Goals as goal

pub returns : goal.returns
returns c = record {
  in_range = λ bytes config is. (accepted bytes config is).0;
  faultless = λ bytes config is. (accepted bytes config is).1;
  whole = λ bytes config is. faultless config (accepted bytes config is).1;
}
