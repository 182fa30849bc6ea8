-- The texts that the program shows of itself, and the lines that its texts and notes are made of.
use Rattle.std.specs.Prelude.{ℕ, List, [], ◌∷◌, ◌++◌, codes}

-- a line: the words, and a line feed
abbrev pub line : List ℕ → List ℕ
line words = words ++ 10 ∷ []

-- a text of lines
abbrev pub lines : List (List ℕ) → List ℕ
lines [] = []
lines (words ∷ more) = line words ++ lines more

-- what `--help` shows: every shape of the words, and every exit status
abbrev pub help_text : List ℕ
help_text = lines (
    codes "usage:"
    ∷ codes "  sledge invoke MODULE BODY BUDGET"
    ∷ codes "      runs the WebAssembly module in the file MODULE once on the bytes of the"
    ∷ codes "      file BODY, for at most BUDGET units (0 to 1099511627776), and writes the"
    ∷ codes "      HTTP reply to the standard output"
    ∷ codes "  sledge check CONFIG"
    ∷ codes "      reads the configuration in the file CONFIG and the modules of its routes,"
    ∷ codes "      and writes how many tenants and routes there are"
    ∷ codes "  sledge replay CONFIG RECORDING"
    ∷ codes "      answers the requests in the file RECORDING as the configuration says, and"
    ∷ codes "      writes the replies of each connection to the standard output"
    ∷ codes "  sledge soak START COUNT"
    ∷ codes "      makes COUNT requests (1 to 4096) from the number START (below 2^64),"
    ∷ codes "      answers them, and writes the summary to the standard output"
    ∷ codes "  sledge serve CONFIG"
    ∷ codes "      answers requests at the ports of the configuration, until it is ended"
    ∷ codes "  sledge --help"
    ∷ codes "      shows this text"
    ∷ codes "  sledge --version"
    ∷ codes "      shows the name and the version"
    ∷ codes ""
    ∷ codes "A refusal is one line on the standard error. The exit status is"
    ∷ codes "  0   done: for invoke the standard error has `units U`, what the run cost, and"
    ∷ codes "      for replay `requests R admitted A started S turns T units U`"
    ∷ codes "  2   `usage`: the words have none of these shapes, or a number is not 1 to 20"
    ∷ codes "      digits in range"
    ∷ codes "  3   `read NAME`: the file NAME cannot be read"
    ∷ codes "  4   `config N`: the configuration is refused"
    ∷ codes "  5   `module N ROUTE PLACE`: the module of a route is refused, which is"
    ∷ codes "      counted from 0; ROUTE is 0 for invoke"
    ∷ codes "  6   `recording N`: the recording, or the body of an invoke, is refused"
    ∷ codes "  7   an output could not be written"
    ∷ codes "  8   `memory`: memory ran out"
    ∷ codes "  9   `thread`: a thread could not be started"
    ∷ codes "  10  `door`: a listener failed"
    ∷ codes "The file docs/FORMATS.md says what each number N means, and each PLACE."
    ∷ [])

-- what `--version` shows
abbrev pub version_text : List ℕ
version_text = line (codes "Cavundel 0.1.0")

-- the content type of a reply whose route names none
abbrev pub octet_stream : List ℕ
octet_stream = codes "application/octet-stream"
