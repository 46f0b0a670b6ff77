-- What `help` and `version` write (this project's choice).
use Rattle.std.specs.Prelude.{ℕ, List, ◌++◌, codes}
use Rattle.drc_app.specs.declared.help.HelpTopic.{HelpTopic}
use Rattle.drc_app.specs.declared.help.HelpTopic.TheVariants as topic

-- the version that the file VERSION has
unfoldable pub version_text : List ℕ
version_text = codes "drc 2.3.0\n"

-- help of all commands
unfoldable pub all_help : List ℕ
all_help = codes "drc COMMAND [OPTION ..] < INPUT > OUTPUT 2> NOTE\n"
    ++ codes "\n"
    ++ codes "  enc               PLY text to a stream, a .drc file; the note is its map\n"
    ++ codes "  dec               a stream to PLY text\n"
    ++ codes "  info              a stream to a report of what it has\n"
    ++ codes "  recode            a stream to one coded in another way; the note is its map\n"
    ++ codes "  recode --restore  a map and a stream to a stream in the order before the map\n"
    ++ codes "  verify            a map, a text and a stream: whether the stream is the text\n"
    ++ codes "  gen               a mesh from a number: how many bytes each method gives\n"
    ++ codes "  kd enc            PLY text of a cloud to a kd-tree file; the note is its map\n"
    ++ codes "  kd dec            a kd-tree file to PLY text\n"
    ++ codes "  help              this text; help COMMAND: what a command takes and gives\n"
    ++ codes "  version           which version this is\n"
    ++ codes "\n"
    ++ codes "COMMAND of help is enc, dec, info, gen, recode, verify or kd. Every command but\n"
    ++ codes "gen, help and version reads standard input. A line on standard error says what\n"
    ++ codes "was refused. With --profile 3 enc, dec, info, recode and verify also read\n"
    ++ codes "octahedral normals, and values that are predicted from positions.\n"
    ++ codes "\n"
    ++ codes "Status: 0 done, 1 bad words, 2 the input is refused, 3 reading failed,\n"
    ++ codes "4 writing failed, 5 out of memory, 6 verify: not the same, 7 a word isn't UTF-8\n"

-- help of `enc`
unfoldable pub enc_help : List ℕ
enc_help = codes "drc enc [OPTION ..] < TEXT > STREAM 2> MAP\n"
    ++ codes "\n"
    ++ codes "Reads PLY text of integers, a mesh or a cloud, and writes a stream, a .drc file.\n"
    ++ codes "The note is the map: a line `map mesh N` or `map cloud N`, then a line for each\n"
    ++ codes "face of the stream, the number of the text's face and its turn; of a cloud for\n"
    ++ codes "each point of the stream, the number of the text's point and 0.\n"
    ++ codes "\n"
    ++ codes "Options, in any order, each at most once:\n"
    ++ codes "  --method seq | eb | valence\n"
    ++ codes "      faces as indices, or a cloud; Edgebreaker; Edgebreaker by valence.\n"
    ++ codes "      Without it: eb for a mesh, seq for a cloud\n"
    ++ codes "  --index plain | packed\n"
    ++ codes "      each index by itself; differences in one block. Sequential meshes alone.\n"
    ++ codes "      Without it: plain\n"
    ++ codes "  --predict none | diff | para | multi | shape\n"
    ++ codes "      not at all; by the entry before; by a parallelogram; by the mean of up to\n"
    ++ codes "      four; by positions: normals by faces, texture coordinates by projection.\n"
    ++ codes "      The last three with Edgebreaker alone, shape with --profile 3 alone.\n"
    ++ codes "      Without it: diff for seq, else para\n"
    ++ codes "  --walk depth | degree\n"
    ++ codes "      entries depth first; by prediction degree. With Edgebreaker alone.\n"
    ++ codes "      Without it: depth\n"
    ++ codes "  --plain-values\n"
    ++ codes "      numbers as they are. Without it: in symbol blocks\n"
    ++ codes "  --profile 2 | 3\n"
    ++ codes "      which texts are read and which streams are written. Profile 3 adds\n"
    ++ codes "      octahedral normals, and --predict shape. Without it: 2\n"

-- help of `dec`
unfoldable pub dec_help : List ℕ
dec_help = codes "drc dec < STREAM > TEXT\n"
    ++ codes "\n"
    ++ codes "Reads a stream, a .drc file, and writes the PLY text of the mesh or cloud that\n"
    ++ codes "it means. Bytes after the stream's end are ignored. There is no note.\n"
    ++ codes "\n"
    ++ codes "Option:\n"
    ++ codes "  --profile 2 | 3\n"
    ++ codes "      which streams are read. Profile 3 adds octahedral normals, and predictions\n"
    ++ codes "      of normals and texture coordinates from positions. Without it: 2\n"

-- help of `info`
unfoldable pub info_help : List ℕ
info_help = codes "drc info < STREAM > REPORT\n"
    ++ codes "\n"
    ++ codes "Reads a stream, a .drc file, and writes what it has: version, kind and method;\n"
    ++ codes "the place of the connectivity; how many faces and points; of each attribute its\n"
    ++ codes "head, its prediction, how many entries it has and where they stand; where the\n"
    ++ codes "stream ends, and how many bytes follow. There is no note.\n"
    ++ codes "\n"
    ++ codes "Option:\n"
    ++ codes "  --profile 2 | 3\n"
    ++ codes "      which streams are read. Profile 3 adds octahedral normals, and predictions\n"
    ++ codes "      of normals and texture coordinates from positions. Without it: 2\n"

-- help of `gen`
unfoldable pub gen_help : List ℕ
gen_help = codes "drc gen KIND SIZE SEED > SUMMARY\n"
    ++ codes "\n"
    ++ codes "Makes a mesh from these words, encodes it by each method with no other option,\n"
    ++ codes "and writes how many faces and points it has and how many bytes each method\n"
    ++ codes "gives. It reads nothing, and there is no note.\n"
    ++ codes "\n"
    ++ codes "  KIND   grid, torus, holes, fans or seams\n"
    ++ codes "  SIZE   how many cells it has each way, 3 to 512\n"
    ++ codes "  SEED   0 to 18446744073709551615\n"
    ++ codes "\n"
    ++ codes "Numbers are decimal, without a sign and without a leading zero.\n"
    ++ codes "\n"
    ++ codes "It takes no options.\n"

-- help of `recode`, also with `--restore`
unfoldable pub recode_help : List ℕ
recode_help = codes "drc recode [OPTION ..] < STREAM > STREAM 2> MAP\n"
    ++ codes "\n"
    ++ codes "Reads a stream and writes one of the same geometry, coded as the options say.\n"
    ++ codes "The note is the map from its faces, or points, to those of the stream that was\n"
    ++ codes "read.\n"
    ++ codes "\n"
    ++ codes "Options, in any order, each at most once. `drc help enc` says what they do:\n"
    ++ codes "  --method seq | eb | valence\n"
    ++ codes "  --index plain | packed\n"
    ++ codes "  --predict none | diff | para | multi | shape\n"
    ++ codes "  --walk depth | degree\n"
    ++ codes "  --plain-values\n"
    ++ codes "  --profile 2 | 3\n"
    ++ codes "      which streams are read and written; `drc help dec` says what 3 adds\n"
    ++ codes "\n"
    ++ codes "drc recode --restore [--profile 2 | 3] < MAP-AND-STREAM > STREAM\n"
    ++ codes "\n"
    ++ codes "Reads a map and, right behind it, the stream that it belongs to, and writes a\n"
    ++ codes "sequential stream in the order before the map. There is no note.\n"
    ++ codes "\n"
    ++ codes "With --restore it takes --profile alone, behind it.\n"

-- help of `verify`
unfoldable pub verify_help : List ℕ
verify_help = codes "drc verify [--surface] [--profile 2 | 3] < PARTS > YES\n"
    ++ codes "\n"
    ++ codes "Reads a map, a line `ply N`, N bytes of PLY text, and a stream, and writes\n"
    ++ codes "`same ROWS` where the stream means the text's mesh, or cloud, by the map. Else\n"
    ++ codes "it writes nothing, the note says where they differ first, and the status is 6.\n"
    ++ codes "\n"
    ++ codes "With --surface also the pairs of sides are compared that are glued in the stream\n"
    ++ codes "and in the text's mesh as enc pairs it.\n"
    ++ codes "\n"
    ++ codes "With --profile 3, behind --surface, text and stream may have what came with\n"
    ++ codes "profile 3; with --profile 2, or without it, what profile 2 has.\n"
    ++ codes "\n"
    ++ codes "It takes no other options.\n"

-- help of `kd enc` and `kd dec`
unfoldable pub kd_help : List ℕ
kd_help = codes "drc kd enc < TEXT > FILE 2> MAP\n"
    ++ codes "\n"
    ++ codes "Reads PLY text of a cloud and writes a kd-tree file, a form of this project,\n"
    ++ codes "which has the points in an order of its own. The note is the map of its points.\n"
    ++ codes "\n"
    ++ codes "drc kd dec < FILE > TEXT\n"
    ++ codes "\n"
    ++ codes "Reads a kd-tree file and writes the PLY text of the cloud that it means. There\n"
    ++ codes "is no note.\n"
    ++ codes "\n"
    ++ codes "Neither takes options.\n"

-- what a command takes, what it reads and writes; or all commands
abbrev pub help_text : HelpTopic → List ℕ
help_text topic.All = all_help
help_text topic.Enc = enc_help
help_text topic.Dec = dec_help
help_text topic.Info = info_help
help_text topic.Gen = gen_help
help_text topic.Recode = recode_help
help_text topic.Verify = verify_help
help_text topic.Kd = kd_help
