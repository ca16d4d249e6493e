-- What the words of a command line ask for.
use Rattle.std.specs.Prelude.{Bool, ◌||◌, List, ℕ, ◌-◌, length, take, if◌then◌else◌}
use Rattle.rules.specs.Bytes.{part, same, ascii}
use Rattle.arguments.specs.declared.Program.{Program}
use Rattle.arguments.specs.declared.Program.TheVariants.{List as Lists, Carve, Index}
use Rattle.arguments.specs.declared.Word.{Word}
use Rattle.arguments.specs.declared.Word.TheVariants.{Input, Help, Version, Unknown, File}

-- `-` is standard input; of the words that begin with it two more are known; every other word is the name of a file
unfoldable pub asked : List ℕ → Word
asked w =
    if same w (ascii "-") then Input
    else if same w (ascii "--help") then Help
    else if same w (ascii "--version") then Version
    else if same (take 1 w) (ascii "-") then Unknown
    else File

-- a name is the known one, or a path that ends in it: that end comes with its slash
abbrev pub is_named : List ℕ → List ℕ → List ℕ → Bool
is_named known path w = same w known || same (part (length w - length path) (length path) w) path

-- The name that a program was called by, a path or not: where its last part is `evtx_carve` it carves, where it is `evtx_index` it indexes, else it
-- lists.
unfoldable pub called : List ℕ → Program
called w =
    if is_named (ascii "evtx_carve") (ascii "/evtx_carve") w then Carve
    else if is_named (ascii "evtx_index") (ascii "/evtx_index") w then Index
    else Lists
