use Rattle.std.proofs.Common.{length, subst, arith}
use Rattle.std.specs.Prelude.{encode_utf8_all}
use Rattle.eql_parser.specs.Kinds.{kinds}
use Rattle.eql_parser.specs.QueryGrammar.{Reads}
use Rattle.eql_parser.specs.Printed.{query_shown}
use Rattle.eql_parser.proofs.SpeltQuery.{query_s}
use Rattle.eql_parser.proofs.CanonicalQuery.{query_toks, query_reads}
use Rattle.eql_parser.proofs.CanonicalOpens.{query_keeps}
use Rattle.eql_parser.proofs.Printable as printable
use Rattle.eql_parser.proofs.Placed.{placed}
use Rattle.eql_parser.proofs.Lexed.{spelled}
use Rattle.eql_parser.proofs.laws.prints_back.Goals as goal

pub returns : goal.returns
returns c text tokens query spells utf8 reads =
    let good = printable.query (kinds tokens) query reads (spelled text tokens spells utf8) in
    let bytes = encode_utf8_all (query_shown query) in
    let there = placed (length bytes) bytes (query_toks query) (omega arith) (query_s query good.0 good.1) in
    (there.0, (there.1, there.2, there.3), subst (λ ks. Reads ks query) there.4 (query_reads query good.0), query_keeps query good.0 there.0 there.4)
