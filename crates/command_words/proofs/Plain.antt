-- What plain words ask for, as the parse finds it.
use Rattle.std.proofs.Common.{◌≡◌, Option, subst, arith}
use Rattle.command_words.proofs.Words.{Command, HasKind, IsFaultOf, IsFound, IsRefusedBy, Kinds, Pairs, Text, Wish, given, kind_of, name_of, number_in, text_in}
use Rattle.clap.specs.declared.error.Error.{Error}
use Rattle.clap.specs.declared.error.kind.ErrorKind.TheVariants.{OutOfMemory}
use Rattle.command_words.specs.declared.asked.WordsFault.{WordsFault}
use Rattle.command_words.specs.declared.asked.WordsFault.TheVariants.{Memory}
use Rattle.command_words.proofs.Walks.{first_given, one_given, pair_rows}

-- ---- faults

pub for_memory : (e : Error) (f : WordsFault) → IsFaultOf e f → kind_of e ≡ OutOfMemory → f ≡ Memory
for_memory e f is memory = grind arith

pub by_kinds : (kinds : Kinds) (e : Error) (f : WordsFault) → IsFaultOf e f → HasKind kinds e → IsRefusedBy kinds f
by_kinds kinds e f is has = grind arith

-- ---- values

texts_are : (pairs : Pairs) → text_in (pair_rows pairs) ≡ given pairs
texts_are pairs = λ i n. first_given pairs n i

numbers_are : (pairs : Pairs) → number_in (pair_rows pairs) ≡ given pairs
numbers_are pairs = λ i n. one_given pairs n i

pub asks_for : (w : Wish) (c : Command) (pairs : Pairs) → IsFound w (name_of c) (text_in (pair_rows pairs)) (number_in (pair_rows pairs)) → IsFound w (name_of c) (given pairs) (given pairs)
asks_for w c pairs h = subst (λ (t : Text → Option Text). IsFound w (name_of c) t (given pairs)) (texts_are pairs)
    (subst (λ (t : Text → Option Text). IsFound w (name_of c) (text_in (pair_rows pairs)) t) (numbers_are pairs) h)
