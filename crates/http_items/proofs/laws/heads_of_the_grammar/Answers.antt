use Rattle.http_items.proofs.FrontLaws.{head_in_reads, head_in_finds, head_in_more}
use Rattle.http_items.proofs.laws.heads_of_the_grammar.Goals as goal

pub returns : goal.returns
returns c = record { found = head_in_reads; all = head_in_finds; stays = head_in_more }
