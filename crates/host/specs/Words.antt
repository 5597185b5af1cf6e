-- The words that are printed for each reply.
use Rattle.std.specs.Prelude.{ℕ, List, ◌++◌, codes, decimal}
use Rattle.host.specs.declared.PutReply.{PutReply}
use Rattle.host.specs.declared.PutReply.TheVariants.{Done, Refused, Silent}
use Rattle.host.specs.declared.ReadReply.{ReadReply}
use Rattle.host.specs.declared.ReadReply.TheVariants.{Holds, Silent as NoAnswer}

abbrev pub put_word : PutReply → List ℕ
put_word Done = codes "done"
put_word Refused = codes "refused"
put_word Silent = codes "silent"

abbrev pub read_words : ReadReply → List ℕ
read_words (Holds amount) = codes "holds " ++ decimal amount
read_words NoAnswer = codes "silent"
