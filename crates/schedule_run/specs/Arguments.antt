-- What it means that the words of the command line were not handed over.
use Rattle.std.specs.declared.io.ErrorKind.{ErrorKind}
use Rattle.std.specs.declared.io.ErrorKind.TheVariants.{InvalidData}
use Rattle.command_words.specs.declared.shape.WordsFault.{WordsFault}
use Rattle.command_words.specs.declared.shape.WordsFault.TheVariants.{BadWords, Memory}

-- a word that is not UTF-8 is of no shape, and any other error is want of memory
abbrev pub words_fault : ErrorKind → WordsFault
words_fault InvalidData = BadWords
words_fault kind = Memory
