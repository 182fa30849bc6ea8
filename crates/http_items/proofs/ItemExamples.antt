-- The items of some streams, by the definitions alone (RFC 9112 sections 2.2, 3, 5, 6 and 9).
use Rattle.std.proofs.Common.{◌≡◌, true, false, [], ◌∷◌, Some, None, codes, refl}
use Rattle.std.specs.Char.{encode_utf8}
use Rattle.std.specs.Str.{chars, is_utf8}
use Rattle.httparse.specs.Grammar.{is_token_byte, trim_ows, print_request}
use Rattle.http1.specs.Text.{eq_ignore_case}
use Rattle.http1.specs.Fields.{elements}
use Rattle.http_items.specs.declared.methods.Method.TheVariants as method
use Rattle.http_items.specs.Heads.{empty_lines_from, bytes_before, value_at, section_at, head_at, head_in}
use Rattle.http_items.specs.Headings.{opening_of}
use Rattle.http_items.specs.Items.{Asked, Faulty, items_upto, items}
use Rattle.http_items.specs.Targets.{path_of}

-- a GET, and a POST behind empty lines
get : items (codes "GET /a?b HTTP/1.1\r\nHost: x\r\n\r\n") false ≡ Asked method.Get (codes "/a") true [] ∷ []
unfolding items items_upto head_in head_at section_at bytes_before value_at empty_lines_from is_token_byte print_request trim_ows eq_ignore_case elements path_of opening_of is_utf8 chars encode_utf8
get = refl

post : items (codes "\n\r\nPOST http://h/a HTTP/1.1\nHOST:\r\nContent-Length: \t003 \n\nabc") false ≡ Asked method.Post (codes "/a") true (codes "abc") ∷ []
unfolding items items_upto head_in head_at section_at bytes_before value_at empty_lines_from is_token_byte print_request trim_ows eq_ignore_case elements path_of opening_of is_utf8 chars encode_utf8
post = refl

-- two in a row, of which the second closes; what follows it is ignored
pipelined : items (codes "GET / HTTP/1.1\r\nHost: x\r\n\r\nHEAD /b HTTP/1.1\r\nHost: x\r\nConnection: x , Close\r\n\r\nGET / HTTP/1.1\r\nHost: x\r\n\r\n") true
    ≡ Asked method.Get (codes "/") true [] ∷ Asked method.Head (codes "/b") false [] ∷ []
unfolding items items_upto head_in head_at section_at bytes_before value_at empty_lines_from is_token_byte print_request trim_ows eq_ignore_case elements path_of opening_of is_utf8 chars encode_utf8
pipelined = refl

-- pairs of line ends are nothing, a lone line feed is a fault at the end
pairs : items (codes "\r\n\r\n") true ≡ []
unfolding items items_upto head_in head_at section_at bytes_before empty_lines_from is_token_byte
pairs = refl

lone : items (codes "\r\n\n") true ≡ Faulty 1 false false ∷ []
unfolding items items_upto head_in head_at section_at bytes_before empty_lines_from is_token_byte
lone = refl

-- a body that is cut
cut : items (codes "HEAD / HTTP/1.0\r\nContent-Length: 4\r\n\r\nabc") true ≡ Faulty 6 true false ∷ []
unfolding items items_upto head_in head_at section_at bytes_before value_at empty_lines_from is_token_byte print_request trim_ows eq_ignore_case elements path_of opening_of is_utf8 chars encode_utf8
cut = refl

waiting : items (codes "HEAD / HTTP/1.0\r\nContent-Length: 4\r\n\r\nabc") false ≡ []
unfolding items items_upto head_in head_at section_at bytes_before value_at empty_lines_from is_token_byte print_request trim_ows eq_ignore_case elements path_of opening_of is_utf8 chars encode_utf8
waiting = refl

-- each refusal of a whole head
two_hosts : items (codes "GET / HTTP/1.1\r\nHost: x\r\nhost: x\r\n\r\n") false ≡ Faulty 2 false false ∷ []
unfolding items items_upto head_in head_at section_at bytes_before value_at empty_lines_from is_token_byte print_request trim_ows eq_ignore_case elements path_of opening_of is_utf8 chars encode_utf8
two_hosts = refl

coding : items (codes "GET / HTTP/1.0\r\nTransfer-Encoding: chunked\r\nContent-Length: x\r\n\r\n") false ≡ Faulty 3 false false ∷ []
unfolding items items_upto head_in head_at section_at bytes_before value_at empty_lines_from is_token_byte print_request trim_ows eq_ignore_case elements path_of opening_of is_utf8 chars encode_utf8
coding = refl

signed : items (codes "HEAD / HTTP/1.0\r\nContent-Length: +1\r\n\r\n") false ≡ Faulty 4 true false ∷ []
unfolding items items_upto head_in head_at section_at bytes_before value_at empty_lines_from is_token_byte print_request trim_ows eq_ignore_case elements path_of opening_of is_utf8 chars encode_utf8
signed = refl

large : items (codes "GET / HTTP/1.0\r\nContent-Length: 18446744073709551616\r\n\r\n") false ≡ Faulty 5 false false ∷ []
unfolding items items_upto head_in head_at section_at bytes_before value_at empty_lines_from is_token_byte print_request trim_ows eq_ignore_case elements path_of opening_of is_utf8 chars encode_utf8
large = refl

asterisk : items (codes "GET * HTTP/1.1\r\nHost: x\r\n\r\n") false ≡ Faulty 7 false false ∷ []
unfolding items items_upto head_in head_at section_at bytes_before value_at empty_lines_from is_token_byte print_request trim_ows eq_ignore_case elements path_of opening_of is_utf8 chars encode_utf8
asterisk = refl

put : items (codes "PUT / HTTP/1.1\r\nHost: x\r\nContent-Length: 1\r\n\r\naPUT / HTTP/1.1\r\nHost: x\r\n\r\n") false ≡ Faulty 8 false true ∷ Faulty 8 false true ∷ []
unfolding items items_upto head_in head_at section_at bytes_before value_at empty_lines_from is_token_byte print_request trim_ows eq_ignore_case elements path_of opening_of is_utf8 chars encode_utf8
put = refl

-- the paths of targets
root : path_of (codes "HTTP://x?a/b") ≡ Some (codes "/")
unfolding path_of eq_ignore_case
root = refl

no_host : path_of (codes "http:///a") ≡ None
unfolding path_of eq_ignore_case
no_host = refl

not_visible : path_of (codes "/a b") ≡ None
unfolding path_of
not_visible = refl
