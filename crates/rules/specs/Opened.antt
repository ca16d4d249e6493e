-- Nothing here need be believed: no rule uses it. It opens every definition at once, so that an example is computed: `unfolding opened`.
use Rattle.rules.specs.Checksum.{crc_bit, crc_bits, crc_byte, crc_over, crc32}
use Rattle.rules.specs.Headers.{file_header_tests, check_file_header, chunk_tests, check_chunk}
use Rattle.rules.specs.Records.{whole, search_from, lowest_from, search_chunk, search_bytes, next_in_chunk, next_in_bytes, of_record, stretch_of, stretch_bytes}
use Rattle.rules.specs.Records.{fields_of}
use Rattle.rules.specs.Stream.{can_grow, walk, left, stream_of, stream_call, feed, close}
use Rattle.rules.specs.Reading.{fetched}
use Rattle.rules.specs.Stretch.{bytes, int, tested, fits, sized, token, token_if_any, last_token, count, in_stretch, within, times, inline, pointed}
use Rattle.rules.specs.Names.{name}
use Rattle.rules.specs.Numerals.{digits, decimal, short_hex, last_digits, unsigned, signed, all_hex, hex_pairs}
use Rattle.rules.specs.Strings.{characters, utf8, escapes, shown, all_shown, string_text, without_zeros}
use Rattle.rules.specs.Dates.{common_row, leap_row, row, in_year, date_from, date_of, date_text, clock_text, time_text, file_time_text, file_time, sys_time}
use Rattle.rules.specs.Values.{bool_text, guid_text, hex_text, authority_text, subs_text, sid, types, value_text}
use Rattle.rules.specs.Elements.{literal, substitution, value_read, piece, pieces, attribute_text, attribute, attributes, attribute_list, item_value, item}
use Rattle.rules.specs.Elements.{items, content, element_body, element_over}
use Rattle.rules.specs.Fragments.{preamble, descriptor, values_of, values, layout, definition, instance, fragment_body, fragment, bin_xml, element}
use Rattle.rules.specs.RecordText.{reading, read, text_of, touched}
use Rattle.rules.specs.Packing.{joined, fields, packed, unpacked}
use Rattle.rules.specs.Index.{entry_bytes, build, rows, entries, is_index, entry_at, find, add}
use Rattle.rules.specs.Listing.{record_line, record_lines, chunk_lines, rest_line, chunks_lines, listing}
use Rattle.rules.specs.Carving.{carved_lines}
use Rattle.rules.specs.Indexing.{entry_lines, chunks_indexed, indexing}
use Rattle.rules.specs.Evt.{is_evt, is_trailer, trailers_from, trailers, repaired, header, evt_header, framed, closed, strings, strings_in, strings_at}
use Rattle.rules.specs.Evt.{string_texts, evt_record_text, evt_text, evt_fields}

unfoldable pub opened : Unit {0}
unfolding crc_bit crc_bits crc_byte crc_over crc32 file_header_tests check_file_header chunk_tests check_chunk whole search_from lowest_from search_chunk
    search_bytes
    next_in_chunk next_in_bytes of_record stretch_of stretch_bytes fields_of fetched bytes int tested fits sized token token_if_any last_token count in_stretch
    within
    times inline pointed name digits decimal short_hex last_digits unsigned signed all_hex hex_pairs characters utf8 escapes shown all_shown string_text
    without_zeros common_row leap_row row in_year date_from date_of date_text clock_text time_text file_time_text file_time sys_time bool_text guid_text
    hex_text
    authority_text subs_text sid types value_text literal substitution value_read piece pieces attribute_text attribute attributes attribute_list item_value
    item
    items content element_body element_over preamble descriptor values_of values layout definition instance fragment_body fragment bin_xml element reading read
    text_of touched record_line record_lines chunk_lines rest_line chunks_lines listing can_grow walk left stream_of stream_call feed close carved_lines
    joined fields packed unpacked entry_bytes build rows entries is_index entry_at find add entry_lines chunks_indexed indexing
    is_evt is_trailer trailers_from trailers repaired header evt_header framed closed strings strings_in strings_at string_texts evt_record_text evt_text
    evt_fields
opened = tt
