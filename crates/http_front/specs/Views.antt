-- What the crate's values stand for among the definitions.
use Rattle.std.specs.Prelude.{ℕ, List, length, map, Option, option_map}
use Rattle.std.specs.Option.{option_to_list}
use Rattle.httparse.specs.Grammar.{RequestHead, print_request}
use Rattle.httparse.specs.Spans.{header_bytes}
use Rattle.http_items.specs.Heads.{head_in}
use Rattle.http_items.specs.Headings as definitions
use Rattle.http_items.specs.Items.{Heard, Asked, Faulty}
use Rattle.http_items.specs.Standings as standings
use Rattle.http_front.specs.declared.headings.Due.{Due}
use Rattle.http_front.specs.declared.headings.Due.TheVariants as due
use Rattle.http_front.specs.declared.parsed.Heading.{Heading}
use Rattle.http_front.specs.declared.headings.Occurrence.{Occurrence}
use Rattle.http_front.specs.declared.headings.Occurrence.TheVariants as occurrence
use Rattle.http_front.specs.declared.headings.Opening.{Opening}
use Rattle.http_front.specs.declared.headings.Opening.TheVariants as opening
use Rattle.http_front.specs.declared.items.Item.{Item}
use Rattle.http_front.specs.declared.items.Item.TheVariants as item
use Rattle.http_front.specs.declared.states.State.{State}
use Rattle.http_front.specs.declared.states.State.TheVariants as state

-- what an item asks
abbrev pub heard_of : Item → Heard
heard_of (item.Request ask) = Asked ask.method ask.path ask.keep ask.body.items
heard_of (item.Fault number head keep) = Faulty number head keep

-- the lines of a name
abbrev pub occurrence_seen : Occurrence → definitions.Occurrence
occurrence_seen occurrence.Missing = definitions.Missing
occurrence_seen (occurrence.Once value) = definitions.Once value.now
occurrence_seen occurrence.Repeated = definitions.Repeated

-- a heading where it stands in bytes
abbrev pub heading_seen : Heading → definitions.Heading
heading_seen g = record {
  method = g.method.now;
  target = g.target.now;
  minor = g.minor;
  lines = map (header_bytes g.buf.now) g.lines.now;
}

-- what is due
abbrev pub due_seen : Due → definitions.Due
due_seen (due.Serve method path keep) = definitions.Serve method path keep
due_seen (due.Refuse refusal head keep) = definitions.Refuse refusal head keep

abbrev pub opening_seen : Opening → definitions.Opening
opening_seen (opening.Refused refusal head) = definitions.Refused refusal head
opening_seen (opening.Awaits due size) = definitions.Awaits (due_seen due) size

-- what the head in front of bytes opens, and its length
abbrev pub opens_and_length : RequestHead × List ℕ → definitions.Opening × ℕ
opens_and_length x = (definitions.opening_of (definitions.heading_of x.0), length (print_request x.0))

unfoldable pub opened_in : List ℕ → Option (definitions.Opening × ℕ)
opened_in text = option_map opens_and_length (head_in text)

-- where a connection stands
abbrev pub standing_of : State → standings.Standing
standing_of (state.Reading held) = standings.Reading held.bytes.items
standing_of (state.Gathering body) = standings.Gathering (due_seen body.due) body.size body.got.items
standing_of state.Over = standings.Over
standing_of state.Failed = standings.Failed

-- the items of a step, of which there is at most one
abbrev pub given : Option Item → List Heard
given item = map heard_of (option_to_list item)
