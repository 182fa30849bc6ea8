-- The modules of the load, in the binary format, section by section (WebAssembly Core 1.0, section 5.5).
use Rattle.std.specs.Prelude.{ℕ, List, [], ◌∷◌, ◌++◌, length, codes, if◌then◌else◌, Some, None}
use Rattle.std.specs.Str.{bytes_eq}
use Rattle.outside.specs.Library.{Files}

-- `\0asm`, and the version 1
abbrev pub header : List ℕ
header = 0x00 ∷ 0x61 ∷ 0x73 ∷ 0x6D ∷ 0x01 ∷ 0x00 ∷ 0x00 ∷ 0x00 ∷ []

-- a name, behind its size
abbrev pub named : List ℕ → List ℕ
named text = length text ∷ text

-- the header, the type of a function that takes and gives nothing, one function of it, and that `_start` is this function
abbrev pub lone_start : List ℕ
lone_start =
    header
    ++ (0x01 ∷ 0x04 ∷ 0x01 ∷ 0x60 ∷ 0x00 ∷ 0x00 ∷ [])
    ++ (0x03 ∷ 0x02 ∷ 0x01 ∷ 0x00 ∷ [])
    ++ (0x07 ∷ 0x0A ∷ 0x01 ∷ named (codes "_start") ++ (0x00 ∷ 0x00 ∷ []))

-- the module that does nothing: `end`
unfoldable pub nil_module : List ℕ
nil_module = lone_start ++ (0x0A ∷ 0x04 ∷ 0x01 ∷ 0x02 ∷ 0x00 ∷ 0x0B ∷ [])

-- the module that traps: `unreachable`, `end`
unfoldable pub trap_module : List ℕ
trap_module = lone_start ++ (0x0A ∷ 0x05 ∷ 0x01 ∷ 0x03 ∷ 0x00 ∷ 0x00 ∷ 0x0B ∷ [])

-- the module that runs on and on: `loop`, `br 0`, `end`, `end`
unfoldable pub loop_module : List ℕ
loop_module = lone_start ++ (0x0A ∷ 0x09 ∷ 0x01 ∷ 0x07 ∷ 0x00 ∷ 0x03 ∷ 0x40 ∷ 0x0C ∷ 0x00 ∷ 0x0B ∷ 0x0B ∷ [])

-- The module that replies with the body of its request. A compiler made it: it has numbers that are padded, a stack pointer, and names.

-- the type of `fd_read` and `fd_write`, and that of `_start`
abbrev pub echo_types : List ℕ
echo_types = 0x01 ∷ 0x0C ∷ 0x02 ∷ 0x60 ∷ 0x04 ∷ 0x7F ∷ 0x7F ∷ 0x7F ∷ 0x7F ∷ 0x01 ∷ 0x7F ∷ 0x60 ∷ 0x00 ∷ 0x00 ∷ []

-- the functions 0 and 1 are those of the host
abbrev pub host_function : (name : List ℕ) → List ℕ
host_function name = named (codes "wasi_snapshot_preview1") ++ named name ++ (0x00 ∷ 0x00 ∷ [])

abbrev pub echo_imports : List ℕ
echo_imports = 0x02 ∷ 0x44 ∷ 0x02 ∷ host_function (codes "fd_read") ++ host_function (codes "fd_write")

-- one function more, two pages of memory, and the stack pointer: a variable that is 66,560 at first
abbrev pub echo_parts : List ℕ
echo_parts =
    (0x03 ∷ 0x02 ∷ 0x01 ∷ 0x01 ∷ [])
    ++ (0x05 ∷ 0x03 ∷ 0x01 ∷ 0x00 ∷ 0x02 ∷ [])
    ++ (0x06 ∷ 0x08 ∷ 0x01 ∷ 0x7F ∷ 0x01 ∷ 0x41 ∷ 0x80 ∷ 0x88 ∷ 0x04 ∷ 0x0B ∷ [])

abbrev pub echo_exports : List ℕ
echo_exports =
    0x07 ∷ 0x13 ∷ 0x02 ∷ named (codes "memory") ++ (0x02 ∷ 0x00 ∷ []) ++ named (codes "_start") ++ (0x00 ∷ 0x02 ∷ [])

-- the body of `_start`, which has one local: it takes 16 bytes of the stack; reads up to 1,024 bytes and writes as many as were read, until none are; and gives the 16 bytes back
abbrev pub echo_code : List ℕ
echo_code =
    (0x0A ∷ 0x77 ∷ 0x01 ∷ 0x75 ∷ 0x01 ∷ 0x01 ∷ 0x7F ∷ [])
    ++ (0x23 ∷ 0x80 ∷ 0x80 ∷ 0x80 ∷ 0x80 ∷ 0x00 ∷ 0x41 ∷ 0x10 ∷ 0x6B ∷ 0x22 ∷ 0x00 ∷ 0x24 ∷ 0x80 ∷ 0x80 ∷ 0x80 ∷ 0x80 ∷ 0x00 ∷ [])
    ++ (0x02 ∷ 0x40 ∷ 0x03 ∷ 0x40 ∷ [])
    ++ (0x20 ∷ 0x00 ∷ 0x41 ∷ 0x80 ∷ 0x08 ∷ 0x36 ∷ 0x02 ∷ 0x08 ∷ 0x20 ∷ 0x00 ∷ 0x41 ∷ 0x80 ∷ 0x08 ∷ 0x36 ∷ 0x02 ∷ 0x0C ∷ [])
    ++ (0x41 ∷ 0x00 ∷ 0x20 ∷ 0x00 ∷ 0x41 ∷ 0x08 ∷ 0x6A ∷ 0x41 ∷ 0x01 ∷ 0x20 ∷ 0x00 ∷ 0x41 ∷ 0x04 ∷ 0x6A ∷ 0x10 ∷ 0x80 ∷ 0x80 ∷ 0x80 ∷ 0x80 ∷ 0x00 ∷ 0x0D ∷ 0x01 ∷ [])
    ++ (0x20 ∷ 0x00 ∷ 0x28 ∷ 0x02 ∷ 0x04 ∷ 0x45 ∷ 0x0D ∷ 0x01 ∷ 0x20 ∷ 0x00 ∷ 0x20 ∷ 0x00 ∷ 0x28 ∷ 0x02 ∷ 0x04 ∷ 0x36 ∷ 0x02 ∷ 0x0C ∷ [])
    ++ (0x41 ∷ 0x01 ∷ 0x20 ∷ 0x00 ∷ 0x41 ∷ 0x08 ∷ 0x6A ∷ 0x41 ∷ 0x01 ∷ 0x20 ∷ 0x00 ∷ 0x41 ∷ 0x04 ∷ 0x6A ∷ 0x10 ∷ 0x81 ∷ 0x80 ∷ 0x80 ∷ 0x80 ∷ 0x00 ∷ 0x45 ∷ 0x0D ∷ 0x00 ∷ [])
    ++ (0x0B ∷ 0x0B ∷ [])
    ++ (0x20 ∷ 0x00 ∷ 0x41 ∷ 0x10 ∷ 0x6A ∷ 0x24 ∷ 0x80 ∷ 0x80 ∷ 0x80 ∷ 0x80 ∷ 0x00 ∷ 0x0B ∷ [])

-- a section of names, which is not looked into
abbrev pub echo_names : List ℕ
echo_names = 0x00 ∷ 0x10 ∷ named (codes "name") ++ (0x01 ∷ 0x09 ∷ 0x01 ∷ 0x02 ∷ named (codes "_start"))

unfoldable pub echo_module : List ℕ
echo_module = header ++ echo_types ++ echo_imports ++ echo_parts ++ echo_exports ++ echo_code ++ echo_names

-- the files of the modules, by the names that the routes have for them
abbrev pub soak_files : Files
soak_files name =
    if bytes_eq name (codes "m0") then Some nil_module
    else (if bytes_eq name (codes "m1") then Some trap_module
    else (if bytes_eq name (codes "m2") then Some loop_module
    else (if bytes_eq name (codes "e") then Some echo_module else None)))
