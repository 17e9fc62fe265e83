use Rattle.words.specs.Word.{bytes_of}
use Rattle.words.proofs.Hexadecimal.{bytes_of-takes}
use Rattle.folder_names.proofs.Spelled.{unspelled, unread}
use Rattle.folder_names.proofs.objects.decoded.Goals as goal

pub returns-in-Ok-clause-ok : goal.returns-in-Ok-clause-ok
returns-in-Ok-clause-ok c = (bytes_of-takes c.args.word.now c.in-Ok.bytes c.in-Ok.ensures).1

pub returns-in-Ok-clause-bytes : goal.returns-in-Ok-clause-bytes
returns-in-Ok-clause-bytes c = (bytes_of-takes c.args.word.now c.in-Ok.bytes c.in-Ok.ensures).0

pub returns-in-Err-NotInGrammar-clause-none : goal.returns-in-Err-NotInGrammar-clause-none
returns-in-Err-NotInGrammar-clause-none c = λ _. unspelled c.args.word.now (unread c.in-Err-NotInGrammar.field-0 (bytes_of c.args.word.now) c.in-Err-NotInGrammar.field-0-is c.in-Err-NotInGrammar.ensures)
